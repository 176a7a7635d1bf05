-- What holds at every moment of the walk over the log, and what it comes to when nothing is left to take: the log is a finished table.
use mathlib.Core.Path.{◌≡◌, refl, ap}
use mathlib.Core.Bool.{true}
use mathlib.Core.List.{List, [], ◌∷◌}
use mathlib.Core.Logic.{◌⊎◌, inl, inr}
use Prim.Native.Nat.{ℕ, ◌<◌}
use native.Mathlib.Nat.{zero-add}
use native.Mathlib.Omega.{arith}
use Rattle.machine.specs.Lists.{◌∈◌, here, there, sum_of}
use Rattle.answer.specs.Depths.{Item}
use Rattle.machine.specs.Walk.{Machine, origin, Book, blank, accepted, refused, unfinished, walk, Log, log}
use Rattle.answer.proofs.Apart.{zero≢one}
use Rattle.machine.proofs.Lists.{∉-nil, ∈-cases}
use Rattle.machine.proofs.Laws.{Laws}
use Rattle.machine.proofs.Paths.{Reached, begins}
use Rattle.machine.proofs.Tables.{place_∈, top, Finished}
use Rattle.machine.proofs.Run.{Kept, Refusal, Pause, when_accepted, when_refused, when_unfinished}
use Rattle.machine.proofs.Once.{Once, item_inside, once_again, once_enters}
use Rattle.machine.proofs.Closed.{Closed, closed_again, closed_enters}
use Rattle.machine.proofs.Counts.{AtMost, Counts, counts_again, counts_enters}

module _ {R : Type 0} (M : Machine R) (degree : ℕ → ℕ) where
  pub record Sound (w : List Item) (b : Book Log) : Type 0 where
    pub once : Once M w b.store
    pub closed : Closed M w b.store
    pub counts : Counts M degree w b

  pub sound_finished : {b : Book Log} → Sound [] b → Finished M b.store
  sound_finished {b} h = record {
    no_repeats = h.once.no_repeats;
    inside = λ m. h.once.inside _ (place_∈ b.store m);
    on_path = λ m. h.closed.on_path (inr m);
    begun = old h.closed.begun;
    passes = h.closed.passes;
    closed = λ m k. old (h.closed.closed m k);
  }
    where
      old : {e : Item} → (e ∈ []) ⊎ (e ∈ b.store) → e ∈ b.store
      old (inl m) = absurd (∉-nil m)
      old (inr m) = m

  module _ {starts : List ℕ} (L : Laws M degree starts) where
    sound_begun : Sound (origin M ∷ []) (blank [])
    unfolding sum_of top
    sound_begun = record {
      once = record {
        no_repeats = tt;
        inside = λ p m. absurd (∉-nil m);
        coming = λ j m h. coming j h (∈-cases m);
        stack = ((λ e. absurd (zero≢one (cc L.entry_named))), λ j m. absurd (∉-nil m));
        chain = λ q m e. absurd (∉-nil m);
      };
      closed = record {
        begun = inl (here refl);
        passes = λ m. absurd (∉-nil m);
        closed = λ m k. absurd (∉-nil m);
        on_path = on_path;
      };
      counts = record {
        reached = refl;
        taken = refl;
        height = refl;
        low = omega arith;
        shallow = λ j m. shallow j (∈-cases m);
        shallower = λ j m. absurd (∉-nil m);
      };
    }
      where
        coming : (j : Item) → j.place < M.end → (j ≡ origin M) ⊎ (j ∈ []) → M.start j.place ≡ true
        coming j h (inl e) =
            let q : j.place ≡ M.entry = ap (λ (i : Item). i.place) e in
            rw q (L.entry_starts (rw q at h))
        coming j h (inr m) = absurd (∉-nil m)

        on_path : {it : Item} → (it ∈ (origin M ∷ [])) ⊎ (it ∈ []) → Reached M it
        on_path (inl (here e)) = begins e
        on_path (inl (there m)) = absurd (∉-nil m)
        on_path (inr m) = absurd (∉-nil m)

        shallow : (j : Item) → (j ≡ origin M) ⊎ (j ∈ []) → AtMost 0 j.depths
        shallow j (inl e) = rw e (omega arith)
        shallow j (inr m) = absurd (∉-nil m)

    sound_kept : Kept M log Sound
    sound_kept = record {
      again = λ h a. record {
        once = once_again M h.once;
        closed = closed_again M h.closed a;
        counts = counts_again M degree h.counts;
      };
      enters = λ h f. let inside = item_inside M h.once f.new.below in record {
        once = once_enters M L h.once f;
        closed = closed_enters M h.closed inside f;
        counts = counts_enters M degree L h.counts inside f;
      };
    }

    module _ (n : ℕ) where
      pub sound_accepted : {b : Book Log} → walk M log n [] ≡ accepted b → Sound [] b
      sound_accepted e = when_accepted M log Sound sound_kept n _ _ sound_begun e

      pub sound_refused : {r : R} {units : ℕ} → walk M log n [] ≡ refused r units → Refusal M log Sound r units
      sound_refused e = when_refused M log Sound sound_kept n _ _ sound_begun e

      pub sound_unfinished : {w : List Item} {b : Book Log} → walk M log n [] ≡ unfinished w b → Pause M log Sound w b n
      sound_unfinished e = rw zero-add at (when_unfinished M log Sound sound_kept n _ _ sound_begun e)
