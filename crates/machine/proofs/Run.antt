-- The one induction over a run, over any store: what each item keeps holds wherever the run ends. Every theorem on the walk is an instance.
use mathlib.Core.Path.{◌≡◌, refl}
use mathlib.Core.List.{List, [], ◌∷◌}
use Prim.Native.Nat.{ℕ, zero, suc, ◌+◌, ◌<◌}
use native.Mathlib.Omega.{arith}
use lib.ListN.{length}
use Rattle.answer.specs.Depths.{Item}
use Rattle.machine.specs.Walk.{Machine, Store, Book, dropped, entered, Turn, goes_on, stops, run, Run, accepted}
use Rattle.machine.specs.Walk.{refused, unfinished}
use Rattle.machine.proofs.Waiting.{waiting}
use Rattle.machine.proofs.Turn.{Again, Enters, Refuses, Taken, again, enters, refuses, turn_is, taken_so}

module _ {R S : Type 0} (M : Machine R) (K : Store S) where
  -- ---- the first item of a run

  module _ {it : Item} {w : List Item} {b : Book S} (n : ℕ) where
    pub run_goes_on : {w' : List Item} {b' : Book S}
        → Taken M K it w b (goes_on w' b')
        → run M K (suc n) (it ∷ w) b ≡ run M K n w' b'
    unfolding run
    run_goes_on t = rw (turn_is M K it w b t, run)

    pub run_stops : {r : R} → Taken M K it w b (stops r) → run M K (suc n) (it ∷ w) b ≡ refused r (b.taken + 1)
    unfolding run
    run_stops t = rw (turn_is M K it w b t, run)

  -- ---- the induction

  -- `P` is kept by an item that was seen before, and by one that enters.
  pub record Kept (P : List Item → Book S → Type 0) : Type 0 where
    pub again : {it : Item} {w : List Item} {b : Book S} → P (it ∷ w) b → Again M K it b → P w (dropped b)
    pub enters : {it : Item} {w : List Item} {b : Book S}
        → P (it ∷ w) b
        → (f : Enters M K it b)
        → P (waiting M it f.passes w) (entered K it f.passes.post b)

  -- What a run of n units, from a book b, comes to where `P` is kept.
  data Ended (P : List Item → Book S → Type 0) (n : ℕ) (b : Book S) : Run R S → Type 0 where
    is_accepted : {b' : Book S} → P [] b' → Ended P n b (accepted b')
    is_refused : {it : Item} {w : List Item} {b' : Book S} {r : R}
        → P (it ∷ w) b'
        → Refuses M K it b' r
        → Ended P n b (refused r (b'.taken + 1))
    is_unfinished : {it : Item} {w : List Item} {b' : Book S}
        → P (it ∷ w) b'
        → b'.taken ≡ b.taken + n
        → Ended P n b (unfinished (it ∷ w) b')

  -- The moment of a refusal, after so many items.
  pub record Refusal (P : List Item → Book S → Type 0) (r : R) (units : ℕ) : Type 0 where
    pub item : Item
    pub below : List Item
    pub book : Book S
    pub holds : P (item ∷ below) book
    pub refuses : Refuses M K item book r
    pub spent : units ≡ book.taken + 1

  -- The moment at which all units are spent.
  pub record Pause (P : List Item → Book S → Type 0) (w : List Item) (b : Book S) (units : ℕ) : Type 0 where
    pub holds : P w b
    pub waits : 0 < length w
    pub spent : b.taken ≡ units

  module _ (P : List Item → Book S → Type 0) (kept : Kept P) where
    ended : (n : ℕ) (w : List Item) (b : Book S) → P w b → Ended P n b (run M K n w b)
    unfolding run
    ended zero [] b h = is_accepted h
    ended zero (it ∷ w) b h = is_unfinished h (omega arith)
    ended (suc n) [] b h = is_accepted h
    ended (suc n) (it ∷ w) b h = go (taken_so M K it w b).1 (ended n)
      where
        later : {b' : Book S} {o : Run R S} → b'.taken ≡ b.taken + 1 → Ended P n b' o → Ended P (suc n) b o
        later e (is_accepted k) = is_accepted k
        later e (is_refused k s) = is_refused k s
        later e (is_unfinished k q) = is_unfinished k (omega arith)

        go : {t : Turn R S}
            → Taken M K it w b t
            → ((w' : List Item) (b' : Book S) → P w' b' → Ended P n b' (run M K n w' b'))
            → Ended P (suc n) b (run M K (suc n) (it ∷ w) b)
        go (again a) ih = rw (run_goes_on n (again a)) (later refl (ih _ _ (kept.again h a)))
        go (enters f) ih = rw (run_goes_on n (enters f)) (later refl (ih _ _ (kept.enters h f)))
        go (refuses s) ih = rw (run_stops n (refuses s)) (is_refused h s)

    module _ (n : ℕ) (w : List Item) (b : Book S) (begun : P w b) where
      ended_as : {o : Run R S} → run M K n w b ≡ o → Ended P n b o
      ended_as e = rw e at (ended n w b begun)

      pub when_accepted : {b' : Book S} → run M K n w b ≡ accepted b' → P [] b'
      when_accepted e = go (ended_as e)
        where
          go : {b' : Book S} → Ended P n b (accepted b') → P [] b'
          go (is_accepted h) = h

      pub when_refused : {r : R} {units : ℕ} → run M K n w b ≡ refused r units → Refusal P r units
      when_refused e = go (ended_as e)
        where
          go : {r : R} {units : ℕ} → Ended P n b (refused r units) → Refusal P r units
          go (is_refused h s) = record { item = _; below = _; book = _; holds = h; refuses = s; spent = refl }

      pub when_unfinished : {w' : List Item} {b' : Book S} → run M K n w b ≡ unfinished w' b' → Pause P w' b' (b.taken + n)
      when_unfinished e = go (ended_as e)
        where
          go : {w' : List Item} {b' : Book S} → Ended P n b (unfinished w' b') → Pause P w' b' (b.taken + n)
          go (is_unfinished h q) = record { holds = h; waits = omega arith; spent = q }
