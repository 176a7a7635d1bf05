-- An instruction that passes the test of its entries has all that the rules ask for.
use mathlib.Core.Bool.{Bool, true, false, ◌&&◌, cond}
use mathlib.Core.List.{List}
use mathlib.Core.Path.{◌≡◌, refl}
use Prim.Native.Nat.{ℕ, ◌<◌}
use native.Mathlib.Omega.{arith}
use borrow.Author.Tests.{eq-eqb, ltb-true, leb-true}
use Rattle.code.specs.Width.{width_at}
use Rattle.rules.specs.Script.{Script}
use Rattle.rules.specs.There.{NameThere, ChainThere, SwitchThere, Stands}
use Rattle.guards.specs.Guards.{has_width, has_name, has_chain, has_switch, is_there, there}

-- ---- two tests in one

false_is : {A : Type 0} → false ≡ true → A
false_is e = let z : ◌≡◌ {A = ℕ} 0 1 = cc in absurd (omega arith)

pub both : (a b : Bool) → a && b ≡ true → (a ≡ true) × (b ≡ true)
both true b e = (refl, e)
both false b e = false_is e

pub not_first : (a b : Bool) → a ≡ false → a && b ≡ false
not_first a b e = rw e

pub not_second : (a b : Bool) → a ≡ true → b ≡ false → a && b ≡ false
not_second a b e f = rw (e, f)

pub each : (a b : Bool) → a ≡ true → b ≡ true → a && b ≡ true
each a b e f = rw (e, f)

-- a test that is only asked under another
asked : (a b : Bool) → cond a b true ≡ true → a ≡ true → b ≡ true
asked a b e t = rw t at e

-- ---- each test

module _ (code : List ℕ) (at : ℕ) where
  pub wide_of : has_width code at ≡ true → 0 < width_at code at
  unfolding has_width
  wide_of e = ltb-true 0 (width_at code at) e

  name_of : (names : List ℕ) → has_name code at names ≡ true → NameThere code names at
  unfolding has_name
  name_of names e = record { name = λ q. ltb-true _ _ (asked _ _ e q) }

  chain_of : (chains steps : List ℕ) → has_chain code at chains steps ≡ true → ChainThere code chains steps at
  unfolding has_chain
  chain_of chains steps e = record {
    chain = λ q.
        let p = both _ _ (asked _ _ e (eq-eqb _ _ q)) in
        record { entry = ltb-true _ _ p.0; within = leb-true _ _ p.1 };
  }

  switch_of : (switches cases ranges : List ℕ) → has_switch code at switches cases ranges ≡ true → SwitchThere code switches cases ranges at
  unfolding has_switch
  switch_of switches cases ranges e = record {
    switch = λ q.
        let p = both _ _ (asked _ _ e (eq-eqb _ _ q)) in
        let w = both _ _ p.1 in
        record { entry = ltb-true _ _ p.0; cases_within = leb-true _ _ w.0; ranges_within = leb-true _ _ w.1 };
  }

-- ---- all of them

pub stands : {S : Script} {p : ℕ} → there S p ≡ true → Stands S p
unfolding is_there
stands {S} {p} e =
    let w = both _ _ e in
    let n = both _ _ w.1 in
    let c = both _ _ n.1 in
    record {
      wide = wide_of S.code p w.0;
      name = name_of S.code p S.pools.names n.0;
      chain = chain_of S.code p S.pools.chains S.pools.steps c.0;
      switch = switch_of S.code p S.pools.switches S.pools.cases S.pools.ranges c.1;
    }
