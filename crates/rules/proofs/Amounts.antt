-- Amounts of operands: those that the code computes are those of the instruction; and nothing pops more than it needs,
-- or pushes more than one; where control does not fall through nothing is pushed.
use mathlib.Core.Bool.{Bool, true, false, ◌||◌}
use mathlib.Core.List.{List, [], ◌∷◌, Memᴰ}
use mathlib.Core.Path.{◌≡◌, refl}
use Prim.Native.Nat.{ℕ, ◌+◌, ◌*◌, ◌/◌, ◌%◌, ◌≤◌, ◌<◌}
use native.Mathlib.Nat.{mul-le-mul_right}
use native.Mathlib.Omega.{arith}
use borrow.Author.Tests.{ne_eqb}
use lib.Dec.{T, leb, eqb, leb→le, eqb→eq}
use lib.ListN.{length, get_or}
use Rattle.code.proofs.ByTag.{tags_of, once, row_holds}
use Rattle.code.specs.Tags.{Row, among, byte, CHAIN}
use Rattle.code.specs.Layout.{tag_at, count_at, index_at}
use Rattle.code.specs.Width.{width_at}
use Rattle.pools.specs.Pools.{chain_at}
use Rattle.rules.specs.Acts.{Acts}
use Rattle.rules.specs.Edges.{falls}
use Rattle.rules.specs.Effects.{TagEffect, effects, effect, operands_of, needs, pops, pushes}
use Rattle.rules.specs.Script.{Script, tag_of}
use Rattle.rules.specs.Shapes.{Shape}
use Rattle.rules.specs.There.{ChainEntry, ChainThere, HasChainEntry}
use Rattle.answer.proofs.Apart.{zero≢one}
use Rattle.rules.proofs.Operands.{tag_small}
use Rattle.rules.proofs.Tests.{pass_at}

-- an instruction whose chain is there whole has its entry
pub chain_entry_of : {code chains steps : List ℕ} {p : ℕ} → ChainThere code chains steps p → ChainEntry code chains p
chain_entry_of there = record { entry = λ e. (there.chain e).entry }

-- the chain that a CHAIN names is in its table
pub chain_entry : (S : Script) (p : ℕ) → HasChainEntry S p → tag_of S p ≡ byte CHAIN → (i : ℕ) → i ≡ index_at S.code p
    → i * 7 + 6 < length S.pools.chains
chain_entry S p there e i q = omega (arith, q, there.entry e)

-- a digit's part of a count of two bytes is small
pub part_small : (word n : ℕ) → n < 65536 → word % 4 * n ≤ 196605
part_small word n h = omega (arith, mul-le-mul_right n (part_three word))
  where
    part_three : (word : ℕ) → word % 4 ≤ 3
    part_three word = omega arith

module _ (code chains : List ℕ) (p : ℕ) where
  -- a CHAIN's effect is its operands k
  pub chain_acts : tag_at code p ≡ byte CHAIN → (k : ℕ) → k ≡ (chain_at chains (index_at code p)).operands
      → Acts code chains p (record { needs = k; pops = k; pushes = 1 })
  unfolding needs pops pushes operands_of effect
  chain_acts e k h = record { needed = rw e (omega arith); popped = rw e (omega arith); pushed = rw (e, pushes) refl }

  -- any other's is made of its word and its count n
  pub word_acts : (tag_at code p ≡ byte CHAIN → ⊥) → (word : ℕ) → Shape (tag_at code p) word → (n : ℕ) → n ≡ count_at code p
      → Acts code chains p (record {
        needs = word % 4 + word / 4 % 4 * n;
        pops = word / 16 % 4 + word / 64 % 4 * n;
        pushes = word / 256 % 16;
      })
  unfolding needs pops pushes operands_of
  word_acts e word s n h = record {
    needed = rw (s.needs_fixed, s.needs_per_n, h, ne_eqb (tag_at code p) (byte CHAIN) e) (omega arith);
    popped = rw (s.pops_fixed, s.pops_per_n, h, ne_eqb (tag_at code p) (byte CHAIN) e) (omega arith);
    pushed = s.pushes;
  }

-- no tag is in two rows of the effects, so that each row holds of its tags
pub effect_row : {row : Row TagEffect} → Memᴰ row effects → (tag : ℕ) → among tag row.tags ≡ true
    → effect tag ≡ row.says
unfolding effect once tags_of
effect_row = row_holds effects _ tt

-- part by part, what is popped is at most what is needed; at most one is pushed, and none where control does not fall
-- through
tests : ℕ → List Bool
unfolding effect falls
tests tag =
    leb (effect tag).pops.fixed (effect tag).needs.fixed
    ∷ leb (effect tag).pops.per_n (effect tag).needs.per_n
    ∷ leb (effect tag).pops.per_k (effect tag).needs.per_k
    ∷ leb (effect tag).pushes 1
    ∷ (falls tag || eqb (effect tag).pushes 0)
    ∷ []

module _ (code chains : List ℕ) (p : ℕ) (wide : 0 < width_at code p) where
  passes : (k : ℕ) → T (get_or (tests (tag_at code p)) k true)
  unfolding tests
  passes = pass_at tests tt (tag_at code p) (tag_small code p wide)

  -- so it is whatever n and k are
  pub pops_within_needs : pops code chains p ≤ needs code chains p
  unfolding needs pops tests
  pops_within_needs =
      let does = effect (tag_at code p) in
      let fixed = leb→le does.pops.fixed does.needs.fixed (passes 0) in
      let per_n = leb→le does.pops.per_n does.needs.per_n (passes 1) in
      let per_k = leb→le does.pops.per_k does.needs.per_k (passes 2) in
      omega (arith, mul-le-mul_right (count_at code p) per_n, mul-le-mul_right (operands_of code chains p) per_k)

  pub pushes_at_most_one : pushes code chains p ≤ 1
  unfolding pushes tests
  pushes_at_most_one = leb→le _ _ (passes 3)

  pub pushes_none : falls (tag_at code p) ≡ false → pushes code chains p ≡ 0
  unfolding pushes tests
  pushes_none e = go (falls (tag_at code p)) e (passes 4)
    where
      go : (b : Bool) → b ≡ false → T (b || eqb (effect (tag_at code p)).pushes 0) → (effect (tag_at code p)).pushes ≡ 0
      go true q t = absurd (zero≢one (cc))
      go false q t = eqb→eq (effect (tag_at code p)).pushes 0 t
