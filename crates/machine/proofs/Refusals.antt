-- Theorem 7. A refusal is real: at an item on a path from the entry that very test fails with these values.
use mathlib.Core.Path.{◌≡◌, refl}
use mathlib.Core.List.{List, [], ◌∷◌}
use mathlib.Core.Logic.{inl, inr}
use mathlib.Core.Option.{some}
use Prim.Native.Nat.{ℕ, ◌≤◌, ◌<◌}
use Rattle.machine.specs.Lists.{◌∈◌, here}
use Rattle.answer.specs.Depths.{Item}
use Rattle.answer.specs.declared.Depths.{Depths}
use Rattle.machine.specs.Walk.{denies, Machine, Book, refused, walk, Log, log}
use Rattle.machine.proofs.Laws.{InChunk, Passes, Laws}
use Rattle.machine.proofs.Paths.{Reached}
use Rattle.machine.proofs.Turn.{bad_some, Refuses, is_off, clashes, is_denied, jumps_badly}
use Rattle.machine.proofs.Once.{item_inside}
use Rattle.machine.proofs.Closed.{seen_entered}
use Rattle.machine.proofs.Sound.{Sound, sound_refused}

module _ {R : Type 0} (M : Machine R) where
  pub data Real : R → Type 0 where
    -- a path runs off the end
    runs_off : {it : Item} → Reached M it → M.end ≤ it.place → Real M.off
    -- two paths come to one instruction with different depths: first with d, then with those of the item
    disagree : {it : Item} {d : Depths}
        → InChunk M it.place
        → Reached M (record { place = it.place; depths = d })
        → Reached M it
        → ¬ (d ≡ it.depths)
        → Real (M.clash it.place d it.depths)
    -- the rule denies an instruction on a path
    is_barred : {it : Item} {r : R} → InChunk M it.place → Reached M it → M.rule it.place it.depths ≡ denies r → Real r
    -- an instruction on a path has a jump that a test refuses
    misses : {it : Item} {r : R}
        → InChunk M it.place
        → Reached M it
        → (g : Passes M it) (j : Item)
        → j ∈ g.jumps
        → M.judge it.place j.place ≡ some r
        → Real r

  module _ {degree : ℕ → ℕ} {starts : List ℕ} (L : Laws M degree starts) where
    real_at : {it : Item} {w : List Item} {b : Book Log} {r : R} → Sound M degree (it ∷ w) b → Refuses M log it b r → Real r
    real_at {it} {w} {b} s refused_so = why refused_so
      where
        path : Reached M it
        path = s.closed.on_path (inl (here refl))

        inside : it.place < M.end → InChunk M it.place
        inside h = item_inside M s.once h

        why : {r : R} → Refuses M log it b r → Real r
        why (is_off h) = runs_off path h
        why (clashes {d} h e n) =
            let first = seen_entered M (record { place = it.place; depths = d }) b.store e in
            disagree (inside h) (s.closed.on_path (inr first)) path n
        why (is_denied n e) = is_barred (inside n.below) path e
        why (jumps_badly n g e) =
            let j = bad_some (M.judge it.place) g.jumps e in
            misses (inside n.below) path g j.0 j.1 j.2

    pub real : (n : ℕ) {r : R} {units : ℕ} → walk M log n [] ≡ refused r units → Real r
    real n e = let s = sound_refused M degree L n e in real_at s.holds s.refuses
