-- One instruction listed, and the entry stored before the first.
use mathlib.Core.Bool.{Bool, true, false, cond}
use mathlib.Core.List.{List, [], ◌∷◌, append_assoc}
use mathlib.Core.Path.{◌≡◌, refl, sym, ◌∙◌}
use Prim.Native.Nat.{ℕ, suc, ◌+◌, ◌-◌, ◌≤◌, ◌<◌}
use native.Mathlib.Omega.{arith}
use borrow.Author.Tests.{le-leb, lt-leb}
use borrow.Rule.Slice.PartMut.{put_mid}
use lib.Dec.{leb}
use lib.ListN.{length, take, drop, set, replicate}
use lib.Seq.{drop-drop, sets-eq}
use Rattle.opening.specs.declared.Tally.{Tally}
use Rattle.opening.specs.Listing.{OneListed, fronted, opening, EntryStored}

-- ---- one instruction

pub at_most_one : (b : Bool) → ◌≤◌ (cond b 1 0) 1
at_most_one true = omega arith
at_most_one false = omega arith

module _ (ts : List ℕ) (fall : ℕ) (before : Tally) (records : List ℕ) (count edges : ℕ) (c : count ≡ length ts) (e : edges ≡ length ts + fall) where
  pub listed_without : length records < before.stored + length ts
      → OneListed ts fall before records (record { targets = before.targets + count; edges = before.edges + edges; stored = before.stored }) records
  listed_without h =
      let full : leb (before.stored + length ts) (length records) ≡ false = lt-leb _ _ h in
      record { targets_counted = rw c refl; edges_counted = rw e refl; stored = rw full refl; words = rw full refl }

  pub listed_with : {k : ℕ} {slots : List ℕ} → before.stored + length ts ≤ length records → k ≡ length ts → slots ≡ ts
      → OneListed ts fall before records (record { targets = before.targets + count; edges = before.edges + edges; stored = before.stored + count })
      (put_mid before.stored k records slots)
  listed_with h l w =
      let room : leb (before.stored + length ts) (length records) ≡ true = le-leb _ _ h in
      record {
        targets_counted = rw c refl;
        edges_counted = rw e refl;
        stored = rw (room, c) refl;
        words = rw (room, w, l, drop-drop (length ts) before.stored records) (sym (sets-eq ts records before.stored h ∙ append_assoc (take before.stored records) ts (drop (before.stored + length ts) records)));
      }

-- ---- the entry

pub none_opened : (entry : ℕ) (records : List ℕ) → length records ≡ 0 → records ≡ replicate (length records) 0 → EntryStored entry (length records) 0 records
unfolding opening fronted
none_opened entry records z e = record { stored = rw z refl; kept = e ∙ rw z refl }

pub one_opened : (entry : ℕ) (records : List ℕ) → (length records ≡ 0 → ⊥) → records ≡ replicate (length records) 0
    → EntryStored entry (length records) 1 (set records 0 entry)
unfolding opening fronted
one_opened entry [] n e = absurd (n refl)
one_opened entry (x ∷ xs) n e =
    let room : leb 1 (suc (length xs)) ≡ true = le-leb 1 (suc (length xs)) (omega arith) in
    let rest : xs ≡ replicate (length xs) 0 = cc in
    let left : suc (length xs) - 1 ≡ length xs = omega arith in
    record { stored = rw room refl; kept = rw (room, left, ← rest) refl }
