-- Theorem 1. The walk ends: it takes at most 1 + E items, where E counts the edges out of the instructions of the chunk. At every moment
-- what waits fits the room that document 01 lends it, "work, 4 × (1 + E)", and no depth is above the number of instructions entered.
use mathlib.Core.Path.{◌≡◌}
use mathlib.Core.List.{List, [], ◌∷◌}
use mathlib.Core.Logic.{◌⊎◌, inl, inr}
use Prim.Native.Nat.{ℕ, ◌+◌, ◌≤◌, ◌<◌}
use native.Mathlib.Omega.{arith}
use lib.ListN.{length, length-map}
use Rattle.machine.specs.Lists.{◌∈◌, NoRepeats, sum_of}
use Rattle.answer.specs.Depths.{Item}
use Rattle.machine.specs.Walk.{Machine, fall_to, Book, accepted, refused, unfinished, walk, Log, log}
use Rattle.machine.proofs.Lists.{∈-cases, sum_le, sum_ones}
use Rattle.machine.proofs.Laws.{InChunk, Carried, Laws, fair_at}
use Rattle.machine.proofs.Paths.{edges_are, OnPath, stand_at, stand_after}
use Rattle.machine.proofs.Tables.{places, Finished, holds, finished_measures}
use Rattle.machine.proofs.Turn.{New}
use Rattle.machine.proofs.Once.{item_inside, new_place}
use Rattle.machine.proofs.Counts.{AtMost}
use Rattle.machine.proofs.Sound.{Sound, sound_finished, sound_accepted, sound_refused, sound_unfinished}

-- The bounds of a work list and a book, in a chunk of so many edges and instructions.
pub record Bounded {S : Type 0} (edges instructions : ℕ) (w : List Item) (b : Book S) : Type 0 where
  pub room : b.taken + length w ≤ 1 + edges
  pub few : b.reached ≤ instructions
  pub shallow : (it : Item) → it ∈ w → AtMost b.reached it.depths
  pub low : b.height ≤ b.reached

-- Before a new item enters there is room for all its edges, even if one of them is refused, and for one instruction more.
pub record Roomy {S : Type 0} (edges instructions degree : ℕ) (w : List Item) (b : Book S) : Type 0 where
  pub room : b.taken + length w + degree ≤ 1 + edges
  pub few : b.reached < instructions

module _ {R : Type 0} (M : Machine R) {degree : ℕ → ℕ} {starts : List ℕ} (L : Laws M degree starts) where
  -- Distinct instructions of the chunk have no more edges than all of them, and are no more.
  edges_le : (f : ℕ → ℕ) (ps : List ℕ) → NoRepeats ps → ((p : ℕ) → p ∈ ps → InChunk M p) → sum_of f ps ≤ sum_of f starts
  edges_le f ps nr inside = sum_le f ps starts nr (λ p m. L.listed (inside p m))

  reached_is : {w : List Item} {b : Book Log} → Sound M degree w b → b.reached ≡ sum_of (λ p. 1) (places b.store)
  reached_is {w} {b} s = omega (arith, s.counts.reached, sum_ones (places b.store), length-map b.store (λ (it : Item). it.place))

  bounded : {w : List Item} {b : Book Log} → Sound M degree w b → Bounded (sum_of degree starts) (length starts) w b
  bounded {w} {b} s = record {
    room = omega (arith, s.counts.taken, all degree);
    few = omega (arith, reached_is s, all (λ p. 1), sum_ones starts);
    shallow = s.counts.shallow;
    low = s.counts.low;
  }
    where
      all : (f : ℕ → ℕ) → sum_of f (places b.store) ≤ sum_of f starts
      all f = edges_le f (places b.store) s.once.no_repeats s.once.inside

  module _ (n : ℕ) where
    -- With 1 + E units the walk is never left unfinished.
    pub ends : {w : List Item} {b : Book Log} → 1 + sum_of degree starts ≤ n → ¬ (walk M log n [] ≡ unfinished w b)
    ends h e = let s = sound_unfinished M degree L n e in omega (arith, s.waits, s.spent, (bounded s.holds).room)

    -- At every moment the bounds are kept,
    pub unfinished_bounded : {w : List Item} {b : Book Log}
        → walk M log n [] ≡ unfinished w b
        → Bounded (sum_of degree starts) (length starts) w b
    unfinished_bounded e = bounded (sound_unfinished M degree L n e).holds

    -- and kept with room for what a new item brings.
    pub unfinished_roomy : {it : Item} {w : List Item} {b : Book Log}
        → walk M log n [] ≡ unfinished (it ∷ w) b
        → New M log it b
        → Roomy (sum_of degree starts) (length starts) (degree it.place) (it ∷ w) b
    unfolding sum_of
    unfinished_roomy {it} {w} {b} e new = record {
      room = omega (arith, s.counts.taken, all degree);
      few = omega (arith, reached_is s, all (λ p. 1), sum_ones starts);
    }
      where
        s : Sound M degree (it ∷ w) b
        s = (sound_unfinished M degree L n e).holds

        inside : (p : ℕ) → (p ≡ it.place) ⊎ (p ∈ places b.store) → InChunk M p
        inside p (inl q) = rw q (item_inside M s.once new.below)
        inside p (inr m) = s.once.inside p m

        all : (f : ℕ → ℕ) → f it.place + sum_of f (places b.store) ≤ sum_of f starts
        all f = edges_le f (it.place ∷ places b.store) (new_place M s.once new, s.once.no_repeats) (λ p m. inside p (∈-cases m))

    -- A refusal comes within 1 + E items.
    pub refused_bounded : {r : R} {units : ℕ} → walk M log n [] ≡ refused r units → units ≤ 1 + sum_of degree starts
    refused_bounded e = let s = sound_refused M degree L n e in omega (arith, s.spent, (bounded s.holds).room)

    -- So does an acceptance, and then the height is even below the number of instructions entered.
    pub accepted_bounded : {b : Book Log}
        → walk M log n [] ≡ accepted b
        → Bounded (sum_of degree starts) (length starts) [] b × (b.height < b.reached)
    accepted_bounded {b} e = (bounded s, rw s.counts.height (below (finished_measures M table degree).attained))
      where
        s : Sound M degree [] b
        s = sound_accepted M degree L n e

        table : Finished M b.store
        table = sound_finished M degree s

        below : {h : ℕ} → OnPath M h → h < b.reached
        below (stand_at r c) = s.counts.shallower _ (holds M table r)
        below (stand_after {it} r c g) = after (fair_at L c g).carried
          where
            after : Carried g.post it.depths (fall_to (M.next it.place) g.fall g.jumps) → g.post < b.reached
            after (inl h) = omega (arith, s.counts.shallower it (holds M table r))
            after (inr x) =
                let m : x.0 ∈ b.store = table.closed (holds M table r) (rw (edges_are M g) x.1) in
                omega (arith, x.2, s.counts.shallower x.0 m)
