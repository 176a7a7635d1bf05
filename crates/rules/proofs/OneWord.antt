-- A tag has one word: what the digits have to say of it leaves no choice.
use mathlib.Core.Bool.{Bool, true, false, ◌&&◌, cond}
use mathlib.Core.List.{List, [], ◌∷◌}
use mathlib.Core.Path.{◌≡◌, refl, sym, ◌∙◌}
use Prim.Native.Nat.{ℕ, ◌*◌, ◌/◌, ◌%◌, ◌^◌, ◌<◌}
use native.Mathlib.Nat.{div-add-mod', div-div-eq-div-mul}
use native.Mathlib.Omega.{arith}
use borrow.Author.Tests.{eqb-true, eqb-false, leb-false}
use lib.Bits.{or_zero_r}
use lib.Dec.{eqb, leb, ltb, eqb→eq}
use lib.ListN.{replicate}
use Rattle.code.proofs.Table.{each}
use Rattle.code.specs.Layout.{among, index_at}
use Rattle.code.specs.Tags.{byte, bytes, ITER_INIT, ITER_DROP, POP_HANDLER, SWITCH, CHAIN, iter_nexts, push_handlers}
use Rattle.pools.specs.Pools.{chain_at}
use Rattle.rules.specs.Asks.{qualifiable, asking, Asks}
use Rattle.rules.specs.Edges.{jumping, falls, plain}
use Rattle.rules.specs.Rights.{of_name, of_chain, required}
use Rattle.rules.specs.Shapes.{Flow, Shape}

-- ---- the flow

-- the flow of a tag, by the groups that it is in
flow_of : ℕ → ℕ
flow_of tag =
    cond (eqb tag (byte ITER_INIT)) 1
    (cond (eqb tag (byte POP_HANDLER)) 2
    (cond (eqb tag (byte ITER_DROP)) 3
    (cond (among tag (bytes iter_nexts)) 4
    (cond (among tag (bytes push_handlers)) 5
    (cond (eqb tag (byte SWITCH)) 8
    (cond (plain tag) 0 (cond (falls tag) 6 (cond (among tag (bytes jumping)) 7 9))))))))

-- the same by the number itself: it is that number
again : ℕ → ℕ
again flow =
    cond (eqb flow 1) 1
    (cond (eqb flow 2) 2
    (cond (eqb flow 3) 3
    (cond (eqb flow 4) 4
    (cond (eqb flow 5) 5
    (cond (eqb flow 8) 8
    (cond (ltb flow 4) 0 (cond (ltb flow 7) 6 (cond (leb 4 flow && leb flow 7) 7 9))))))))

is_again : ℕ → ℕ → Bool
unfolding again
is_again flow x = eqb (again flow) flow

flow_told : {tag flow : ℕ} → Flow tag flow → flow_of tag ≡ flow
unfolding flow_of again is_again
flow_told {tag} {flow} f =
    rw (f.iterates, f.disarms, f.drops, f.advances, f.arms, f.switches, ← f.is_plain, ← f.falls_on, f.jumps)
    (eqb→eq (again flow) flow (each is_again (replicate 10 0) tt flow f.low))

-- ---- the rights

module _ (tag : ℕ) where
  -- a code of this tag alone, where a name asks for nothing
  abbrev alone : List ℕ
  alone = tag ∷ []

  abbrev asks_alone : ℕ → ℕ
  asks_alone rights = asking rights (of_name [] (index_at alone 0)) (of_chain [] (chain_at [] (index_at alone 0)))

  no_name : (i : ℕ) → of_name [] i ≡ 0
  unfolding of_name
  no_name i = refl

  module _ {rights : ℕ} (a : Asks tag rights) where
    needed_alone : asks_alone rights ≡ required alone [] [] [] 0
    needed_alone = a.needed alone [] [] [] 0 refl

    by_word : rights / 16384 ≡ 0 → rights ≡ required alone [] [] [] 0
    unfolding asking
    by_word z = sym (rw z) ∙ needed_alone

    with_name : rights / 16384 ≡ 1 → rights % 16384 ≡ required alone [] [] [] 0
    unfolding asking
    with_name one = sym (or_zero_r (rights % 16384)) ∙ sym (rw (one, no_name (index_at alone 0))) ∙ needed_alone

  pub rights_once : {rights other : ℕ} → Asks tag rights → Asks tag other → rights ≡ other
  rights_once {rights} {other} a b = go (eqb tag (byte CHAIN)) refl (among tag (bytes qualifiable)) refl
    where
      go : (c : Bool) → eqb tag (byte CHAIN) ≡ c → (n : Bool) → among tag (bytes qualifiable) ≡ n → rights ≡ other
      go true p n q = eqb-true rights 32768 (sym a.chain_alone ∙ p) ∙ sym (eqb-true other 32768 (sym b.chain_alone ∙ p))
      go false p true q =
          let one = eqb-true (rights / 16384) 1 (sym a.by_name ∙ q) in
          let two = eqb-true (other / 16384) 1 (sym b.by_name ∙ q) in
          omega (arith, one, two, with_name a one, with_name b two)
      go false p false q =
          let none = eqb-false (rights / 16384) 1 (sym a.by_name ∙ q) in
          let low = leb-false 2 (rights / 16384) (sym a.by_chain ∙ p) in
          let none' = eqb-false (other / 16384) 1 (sym b.by_name ∙ q) in
          let low' = leb-false 2 (other / 16384) (sym b.by_chain ∙ p) in
          by_word a (omega (arith, none, low)) ∙ sym (by_word b (omega (arith, none', low')))

-- ---- the word

-- two numbers with the same lowest digit, of any base, and the same above it
join : (base a b : ℕ) → a % base ≡ b % base → a / base ≡ b / base → a ≡ b
join base a b e f = sym (div-add-mod' a base) ∙ rw (e, f) (div-add-mod' b base)

-- and from a place on
module _ (a b : ℕ) where
  from : (base place : ℕ) → a / place % base ≡ b / place % base → a / (place * base) ≡ b / (place * base) → a / place ≡ b / place
  from base place e f = join base (a / place) (b / place) e (div-div-eq-div-mul a place base ∙ f ∙ sym (div-div-eq-div-mul b place base))

  highest : a / 16777216 % 65536 ≡ b / 16777216 % 65536 → a < 2 ^ 40 → b < 2 ^ 40 → a / 16777216 ≡ b / 16777216
  highest e f g = omega arith

pub one_word : {tag word other : ℕ} → Shape tag word → Shape tag other → word ≡ other
one_word {tag} {word} {other} a b =
    let rights = highest word other (rights_once tag a.rights b.rights) a.no_more b.no_more in
    let flow = from word other 16 1048576 (sym (flow_told a.flow) ∙ flow_told b.flow) rights in
    let place = from word other 16 65536 (a.place ∙ sym b.place) flow in
    let width = from word other 16 4096 (a.width ∙ sym b.width) place in
    let pushes = from word other 16 256 (a.pushes ∙ sym b.pushes) width in
    let pops = from word other 4 16 (a.pops_fixed ∙ sym b.pops_fixed) (from word other 4 64 (a.pops_per_n ∙ sym b.pops_per_n) pushes) in
    join 4 word other (a.needs_fixed ∙ sym b.needs_fixed) (from word other 4 4 (a.needs_per_n ∙ sym b.needs_per_n) pops)
