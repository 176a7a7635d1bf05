-- Theorem 6. Running a + b units is running a and then b, over any store.
use mathlib.Core.Path.{◌≡◌, refl}
use mathlib.Core.List.{List, [], ◌∷◌}
use Prim.Native.Nat.{ℕ, zero, suc, ◌+◌}
use native.Mathlib.Nat.{suc-add, zero-add}
use Rattle.answer.specs.Depths.{Item}
use Rattle.machine.specs.Walk.{Machine, Store, Book, Turn, goes_on, stops, run, Run, accepted, refused}
use Rattle.machine.specs.Walk.{unfinished}
use Rattle.machine.proofs.Turn.{Taken, again, enters, refuses, taken_so}
use Rattle.machine.proofs.Run.{run_goes_on, run_stops}

module _ {R S : Type 0} (M : Machine R) (K : Store S) where
  -- A run, and then as many units more.
  unfoldable pub resume : ℕ → Run R S → Run R S
  resume n (accepted b) = accepted b
  resume n (refused r units) = refused r units
  resume n (unfinished w b) = run M K n w b

  run_nil : (n : ℕ) (b : Book S) → run M K n [] b ≡ accepted b
  unfolding run
  run_nil zero b = refl
  run_nil (suc n) b = refl

  pub run_add : (m n : ℕ) (w : List Item) (b : Book S) → run M K (m + n) w b ≡ resume n (run M K m w b)
  unfolding run resume
  run_add zero n [] b = run_nil (0 + n) b
  run_add zero n (it ∷ w) b = rw zero-add
  run_add (suc m) n [] b = rw suc-add
  run_add (suc m) n (it ∷ w) b = rw suc-add (go (taken_so M K it w b).1 (run_add m n))
    where
      go : {t : Turn R S}
          → Taken M K it w b t
          → ((w' : List Item) (b' : Book S) → run M K (m + n) w' b' ≡ resume n (run M K m w' b'))
          → run M K (suc (m + n)) (it ∷ w) b ≡ resume n (run M K (suc m) (it ∷ w) b)
      go (again a) ih = rw (run_goes_on M K (m + n) (again a), run_goes_on M K m (again a)) (ih _ _)
      go (enters f) ih = rw (run_goes_on M K (m + n) (enters f), run_goes_on M K m (enters f)) (ih _ _)
      go (refuses s) ih = rw (run_stops M K (m + n) (refuses s), run_stops M K m (refuses s))

  -- So a run that is over stays as it is, however many units more it gets,
  module _ (n : ℕ) (w : List Item) (b : Book S) (more : ℕ) where
    pub stays_accepted : {b' : Book S} → run M K n w b ≡ accepted b' → run M K (n + more) w b ≡ accepted b'
    unfolding resume
    stays_accepted e = rw (run_add n more w b, e)

    pub stays_refused : {r : R} {units : ℕ} → run M K n w b ≡ refused r units → run M K (n + more) w b ≡ refused r units
    unfolding resume
    stays_refused e = rw (run_add n more w b, e)

  -- and an unfinished one goes on with the item on top.
  module _
      (n : ℕ)
      (w₀ : List Item)
      (b₀ : Book S)
      {it : Item}
      {w : List Item}
      {b : Book S}
      (e : run M K n w₀ b₀ ≡ unfinished (it ∷ w) b)
    where
      pub next_goes_on : {w' : List Item} {b' : Book S}
          → Taken M K it w b (goes_on w' b')
          → run M K (n + 1) w₀ b₀ ≡ run M K 0 w' b'
      unfolding resume
      next_goes_on t = rw (run_add n 1 w₀ b₀, e) (run_goes_on M K 0 t)

      pub next_stops : {r : R} → Taken M K it w b (stops r) → run M K (n + 1) w₀ b₀ ≡ refused r (b.taken + 1)
      unfolding resume
      next_stops t = rw (run_add n 1 w₀ b₀, e) (run_stops M K 0 t)
