-- Paths over a machine, and what is claimed of a chunk in their terms: that depths can be written beside its instructions, and how many
-- places are reached, how many items taken, how high the operands stand. Nothing here knows the walk.
use mathlib.Core.Path.{◌≡◌}
use mathlib.Core.List.{List, []}
use mathlib.Core.Option.{Option, some}
use Prim.Native.Nat.{ℕ, ◌+◌, ◌≤◌}
use native.Mathlib.Omega.{arith}
use lib.ListN.{length}
use Rattle.machine.specs.Lists.{◌∈◌, NoRepeats, sum_of}
use Rattle.answer.specs.Depths.{zeros, Item}
use Rattle.answer.specs.declared.Depths.{Depths}
use Rattle.machine.specs.Walk.{Ruling, denies, gives, Machine, origin, fall_to}
use Rattle.machine.proofs.Lists.{sum_same, sum_ones}
use Rattle.machine.proofs.Laws.{InChunk, Passes}

-- Where a ruling leads: what falls through to the next place, and the jumps. Nowhere, if it denies.
unfoldable pub leads : {R : Type 0} → ℕ → Ruling R → List Item
leads next (denies r) = []
leads next (gives post fall jumps) = fall_to next fall jumps

module _ {R : Type 0} (M : Machine R) where
  abbrev pub edges : Item → List Item
  edges it = leads (M.next it.place) (M.rule it.place it.depths)

  pub edges_are : {it : Item} (g : Passes M it) → edges it ≡ fall_to (M.next it.place) g.fall g.jumps
  unfolding leads
  edges_are g = rw g.ruled

  -- A path from the entry comes to an item: each step goes from an instruction of the chunk along one of its edges.
  pub data Reached : Item → Type 0 where
    begins : {it : Item} → it ≡ origin M → Reached it
    follows : {it e : Item} → Reached it → InChunk M it.place → e ∈ edges it → Reached e

  -- So many operands stand at an instruction on a path from the entry, or just after it.
  pub data OnPath : ℕ → Type 0 where
    stand_at : {it : Item} → Reached it → InChunk M it.place → OnPath it.depths.operands
    stand_after : {it : Item} → Reached it → InChunk M it.place → (g : Passes M it) → OnPath g.post

  -- ---- a writing of depths

  -- An item is good, where the depths `A` are written and a height is declared: an instruction starts there, it has what it needs, each of
  -- its edges leads to a place that bears the very depths that the rule gives, and no operands at it or just after it exceed the height.
  pub record Good (A : ℕ → Option Depths) (height : ℕ) (it : Item) : Type 0 where
    pub inside : InChunk M it.place
    pub passes : Passes M it
    pub borne : (e : Item) → e ∈ edges it → A e.place ≡ some e.depths
    pub low : it.depths.operands ≤ height
    pub low_after : passes.post ≤ height

  -- Depths written beside some places: zeros at the entry, and good wherever they stand.
  pub record Writing (height : ℕ) (A : ℕ → Option Depths) : Type 0 where
    pub begun : A M.entry ≡ some zeros
    pub good : (it : Item) → A it.place ≡ some it.depths → Good A height it

  -- What is written under a height is written under any larger one.
  pub raise : {low high : ℕ} {A : ℕ → Option Depths} → low ≤ high → Writing low A → Writing high A
  raise {low} {high} {A} h W = record { begun = W.begun; good = λ it e. up (W.good it e) }
    where
      up : {it : Item} → Good A low it → Good A high it
      up g = record {
        inside = g.inside;
        passes = g.passes;
        borne = g.borne;
        low = omega (arith, g.low);
        low_after = omega (arith, g.low_after);
      }

  -- ---- the measures

  -- `reached` counts the starts on some path, without repeats; `taken` is one more than the edges out of those; `height` is the largest
  -- number of operands at an instruction on a path or just after it.
  pub record Measured (degree : ℕ → ℕ) (reached taken height : ℕ) : Type 0 where
    pub places : List ℕ
    pub no_repeats : NoRepeats places
    pub inside : (p : ℕ) → p ∈ places → InChunk M p
    pub on_path : (p : ℕ) → p ∈ places → (d : Depths) × Reached (record { place = p; depths = d })
    pub all : (it : Item) → Reached it → it.place ∈ places
    pub counted : reached ≡ length places
    pub summed : taken ≡ 1 + sum_of degree places
    pub attained : OnPath height
    pub largest : (h : ℕ) → OnPath h → h ≤ height

  -- The paths fix the measures: whoever measures by them comes to the same numbers.
  module _
      {degree : ℕ → ℕ}
      {reached₁ taken₁ height₁ reached₂ taken₂ height₂ : ℕ}
      (a : Measured degree reached₁ taken₁ height₁)
      (b : Measured degree reached₂ taken₂ height₂)
    where
      same_sum : (f : ℕ → ℕ) → sum_of f a.places ≡ sum_of f b.places
      same_sum f = sum_same f a.places b.places a.no_repeats b.no_repeats to fro
        where
          to : (p : ℕ) → p ∈ a.places → p ∈ b.places
          to p m = b.all _ (a.on_path p m).1

          fro : (p : ℕ) → p ∈ b.places → p ∈ a.places
          fro p m = a.all _ (b.on_path p m).1

      pub same_reached : reached₁ ≡ reached₂
      same_reached = omega (arith, a.counted, b.counted, same_sum (λ p. 1), sum_ones a.places, sum_ones b.places)

      pub same_taken : taken₁ ≡ taken₂
      same_taken = omega (arith, a.summed, b.summed, same_sum degree)

      pub same_height : height₁ ≡ height₂
      same_height = omega (arith, a.largest height₂ b.attained, b.largest height₁ a.attained)
