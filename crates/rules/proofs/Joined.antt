-- Rights joined: of a name, of a step, of steps from the last back, of a chain, and of an instruction.
use mathlib.Core.Bool.{true}
use mathlib.Core.List.{List}
use mathlib.Core.Path.{◌≡◌, refl, sym, ap, ◌∙◌}
use Prim.Native.Nat.{ℕ, suc, ◌+◌, ◌-◌, ◌*◌, ◌/◌, ◌%◌, ◌≤◌, ◌<◌}
use native.Mathlib.Omega.{arith}
use borrow.Author.Tests.{eq-eqb, ne_eqb, eqb-true, le-leb}
use Rattle.std.proofs.lemmas.Nat.{or_comm}
use lib.Bits.{bit_or}
use lib.Dec.{eqb}
use lib.ListN.{length, get_or}
use Rattle.code.proofs.Among.{or_true}
use Rattle.code.specs.Layout.{among, index_at}
use Rattle.code.specs.Tags.{byte, bytes, CHAIN}
use Rattle.pools.specs.Pools.{chain_at, step_at, entries}
use Rattle.rules.specs.Asks.{qualifiable, asking, Asks}
use Rattle.rules.specs.Bits.{Right, bit}
use Rattle.rules.specs.Needs.{required_rights}
use Rattle.rules.specs.Rights.{of_name, of_step, of_steps, of_chain}
use Rattle.rules.specs.Script.{Script, tag_of}
use Rattle.rules.specs.There.{ChainWhole, HasName, HasChain}
use Rattle.code.specs.Width.{width_at}
use Rattle.rules.proofs.Operands.{index_there, chain_there}

-- the flag of a name
module _ (names : List ℕ) (i : ℕ) where
  pub plain_name : get_or names i 0 ≡ 0 → 0 ≡ of_name names i
  unfolding of_name
  plain_name e = rw (eq-eqb (get_or names i 0) 0 e)

  pub qualified_name : (get_or names i 0 ≡ 0 → ⊥) → bit Right.MODULE ≡ of_name names i
  unfolding of_name
  qualified_name n = rw (ne_eqb (get_or names i 0) 0 n)

-- the kind of a step
module _ (steps : List ℕ) (i : ℕ) where
  pub index_step : get_or steps (i * 4) 0 ≡ 0 → bit Right.INDEXING ≡ of_step (step_at steps i)
  unfolding of_step step_at
  index_step e = rw (eq-eqb (get_or steps (i * 4) 0) 0 e)

  pub property_step : (get_or steps (i * 4) 0 ≡ 0 → ⊥) → get_or steps (i * 4) 0 ≡ 1 → bit Right.PROPERTY ≡ of_step (step_at steps i)
  unfolding of_step step_at
  property_step n e = rw (ne_eqb (get_or steps (i * 4) 0) 0 n, eq-eqb (get_or steps (i * 4) 0) 1 e)

  pub method_step : (get_or steps (i * 4) 0 ≡ 0 → ⊥) → (get_or steps (i * 4) 0 ≡ 1 → ⊥) → bit Right.METHOD ≡ of_step (step_at steps i)
  unfolding of_step step_at
  method_step n m = rw (ne_eqb (get_or steps (i * 4) 0) 0 n, ne_eqb (get_or steps (i * 4) 0) 1 m)

-- of the steps from a first one to an end, those from i on are joined
pub record Rest (steps : List ℕ) (first count caps i : ℕ) : Type 0 where
  pub above : first ≤ i
  pub below : i ≤ first + count
  pub joined : caps ≡ of_steps (entries (step_at steps) i (first + count - i))

module _ (steps : List ℕ) (first count : ℕ) where
  pub none_joined : Rest steps first count 0 (first + count)
  unfolding of_steps entries
  none_joined =
      let none : first + count - (first + count) ≡ 0 = omega arith in
      record { above = omega arith; below = omega arith; joined = rw none refl }

  pub one_joined : {caps i : ℕ} → Rest steps first count caps i → first < i
      → (step : ℕ) → step ≡ of_step (step_at steps (i - 1)) → Rest steps first count (bit_or caps step) (i - 1)
  unfolding of_steps entries
  one_joined {caps} {i} r h step e =
      let one_more : first + count - (i - 1) ≡ suc (first + count - i) = omega (arith, r.below, h) in
      let after : i - 1 + 1 ≡ i = omega (arith, h) in
      record {
        above = omega (arith, h);
        below = omega (arith, r.below);
        joined = or_comm caps step ∙ rw (one_more, after, e, r.joined) refl;
      }

  pub all_joined : {caps i : ℕ} → Rest steps first count caps i → i ≤ first
      → caps ≡ of_steps (entries (step_at steps) first count)
  all_joined {caps} {i} r h =
      let from : i ≡ first = omega (arith, r.above, h) in
      let whole : first + count - first ≡ count = omega arith in
      r.joined ∙ rw (from, whole) refl

-- a chain's root, joined with its steps
module _ (chains steps : List ℕ) (i caps : ℕ)
    (e : caps ≡ of_steps (entries (step_at steps) (get_or chains (i * 7 + 5) 0) (get_or chains (i * 7 + 6) 0))) where
  pub this_root : get_or chains (i * 7) 0 ≡ 2 → bit_or (bit Right.THIS) caps ≡ of_chain steps (chain_at chains i)
  unfolding of_chain chain_at
  this_root r = ap (bit_or (bit Right.THIS)) e ∙ rw (eq-eqb (get_or chains (i * 7) 0) 2 r) refl

  pub other_root : (get_or chains (i * 7) 0 ≡ 2 → ⊥) → caps ≡ of_chain steps (chain_at chains i)
  unfolding of_chain chain_at
  other_root n = e ∙ rw (ne_eqb (get_or chains (i * 7) 0) 2 n) refl

-- an instruction, and the rights in its tag's word
module _ (S : Script) (p : ℕ) {asked : ℕ} (A : Asks (tag_of S p) asked) where
  -- the rights say all
  pub word_rights : asked / 16384 ≡ 0 → asked ≡ required_rights S p
  unfolding asking
  word_rights z = sym (rw z) ∙ A.needed S.code S.pools.names S.pools.chains S.pools.steps p refl

  -- a name decides
  module _ (one : asked / 16384 ≡ 1) where
    qualified : among (tag_of S p) (bytes qualifiable) ≡ true
    qualified = A.by_name ∙ eq-eqb (asked / 16384) 1 one

    pub name_index : 0 < width_at S.code p → p + 3 ≤ length S.code
    unfolding among
    name_index wide = index_there S.code p wide (rw qualified (rw or_true (or_true (eqb (tag_of S p) (byte CHAIN)))))

    pub named_there : HasName S p → index_at S.code p < length S.pools.names
    named_there there = there.name qualified

    pub name_rights : (x : ℕ) → x ≡ of_name S.pools.names (index_at S.code p)
        → bit_or (asked % 16384) x ≡ required_rights S p
    unfolding asking
    name_rights x e =
        rw e (sym (rw one) ∙ A.needed S.code S.pools.names S.pools.chains S.pools.steps p refl)

  -- a chain does
  module _ (more : asked / 16384 ≡ 0 → ⊥) (not-one : asked / 16384 ≡ 1 → ⊥) where
    is_chain : tag_of S p ≡ byte CHAIN
    is_chain = eqb-true (tag_of S p) (byte CHAIN) (A.by_chain ∙ le-leb 2 (asked / 16384) (omega arith))

    pub chain_index : 0 < width_at S.code p → p + 3 ≤ length S.code
    chain_index wide = chain_there S.code p wide is_chain

    pub chained_there : HasChain S p → ChainWhole S.pools.chains S.pools.steps (index_at S.code p)
    chained_there there = there.chain is_chain

    pub chain_rights : (x : ℕ) → x ≡ of_chain S.pools.steps (chain_at S.pools.chains (index_at S.code p))
        → x ≡ required_rights S p
    unfolding asking
    chain_rights x e =
        e
        ∙ sym (rw (ne_eqb (asked / 16384) 0 more, ne_eqb (asked / 16384) 1 not-one))
        ∙ A.needed S.code S.pools.names S.pools.chains S.pools.steps p refl
