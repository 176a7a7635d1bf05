-- The walk over a store that recalls what the log recalls gives the answers, the counts and the height of the walk over the log.
use mathlib.Core.Path.{◌≡◌, refl, sym, ap, ◌∙◌}
use mathlib.Core.Bool.{Bool, true, false}
use mathlib.Core.List.{List, [], ◌∷◌}
use mathlib.Core.Option.{none, some}
use Prim.Native.Nat.{ℕ, zero, suc, ◌+◌, ◌<◌}
use native.Mathlib.Decide.{ℕ_discrete}
use native.Mathlib.Omega.{arith}
use lib.ListN.{length}
use Rattle.machine.specs.Lists.{sum_of}
use Rattle.answer.specs.Depths.{Item}
use Rattle.machine.specs.Walk.{Machine, origin, Store, Book, blank, dropped, entered, Turn, run, Run, accepted}
use Rattle.machine.specs.Walk.{refused, unfinished, seen, walk, Log, lookup, log}
use Rattle.machine.proofs.Laws.{Laws}
use Rattle.machine.proofs.Tables.{lookup_hit, lookup_miss}
use Rattle.machine.proofs.Turn.{seen_named, seen_other, Again, New, Enters, Refuses, is_off, clashes, is_denied}
use Rattle.machine.proofs.Turn.{jumps_badly, Taken, again, enters, refuses, taken_so}
use Rattle.machine.proofs.Run.{run_goes_on, run_stops}
use Rattle.machine.proofs.Ends.{Bounded, Roomy, unfinished_bounded, unfinished_roomy}

module _ {R S : Type 0} (M : Machine R) (K : Store S) (Fit : S → Type 0) where
  -- What the store may count on where an item is noted.
  pub record Noting (s : S) (it : Item) : Type 0 where
    pub fit : Fit s
    pub below : it.place < M.end
    pub unseen : seen M K it.place s ≡ none

  -- Of the named places the store recalls what was noted; it stays fit for that.
  pub record Faithful : Type 0 where
    pub fits : (s : S) (it : Item) → Noting s it → Fit (K.note it s)
    pub recalls_new : (s : S) (it : Item)
        → Noting s it
        → M.named it.place ≡ true
        → K.recall it.place (K.note it s) ≡ some it.depths
    pub recalls_old : (s : S) (it : Item)
        → Noting s it
        → (p : ℕ)
        → M.named p ≡ true
        → ¬ (p ≡ it.place)
        → K.recall p (K.note it s) ≡ K.recall p s

  -- A book over the store tells what a book over the log tells.
  pub record Tells (b : Book S) (l : Book Log) : Type 0 where
    pub fit : Fit b.store
    pub same : (p : ℕ) → M.named p ≡ true → K.recall p b.store ≡ lookup p l.store
    pub reached : b.reached ≡ l.reached
    pub taken : b.taken ≡ l.taken
    pub height : b.height ≡ l.height

  data Alike : Run R S → Run R Log → Type 0 where
    both_accepted : {b : Book S} {l : Book Log} → Tells b l → Alike (accepted b) (accepted l)
    both_refused : {r : R} {units : ℕ} → Alike (refused r units) (refused r units)
    both_unfinished : {w : List Item} {b : Book S} {l : Book Log} → Tells b l → Alike (unfinished w b) (unfinished w l)

  -- ---- one item

  module _ {b : Book S} {l : Book Log} (t : Tells b l) where
    same_seen : (p : ℕ) → seen M K p b.store ≡ seen M log p l.store
    same_seen p = go (M.named p) refl
      where
        go : (o : Bool) → M.named p ≡ o → seen M K p b.store ≡ seen M log p l.store
        go true e = seen_named M K b.store e ∙ t.same p e ∙ sym (seen_named M log l.store e)
        go false e = seen_other M K b.store e ∙ sym (seen_other M log l.store e)

    -- What is known of an item over the log is known of it over the store.
    store_again : {it : Item} → Again M log it l → Again M K it b
    store_again {it} a = record { below = a.below; found = same_seen it.place ∙ a.found }

    store_new : {it : Item} → New M log it l → New M K it b
    store_new {it} n = record { below = n.below; unseen = same_seen it.place ∙ n.unseen }

    log_new : {it : Item} → New M K it b → New M log it l
    log_new {it} n = record { below = n.below; unseen = sym (same_seen it.place) ∙ n.unseen }

    store_enters : {it : Item} → Enters M log it l → Enters M K it b
    store_enters f = record { new = store_new f.new; passes = f.passes; judged = f.judged }

    store_refuses : {it : Item} {r : R} → Refuses M log it l r → Refuses M K it b r
    store_refuses (is_off h) = is_off h
    store_refuses {it} (clashes h e n) = clashes h (same_seen it.place ∙ e) n
    store_refuses (is_denied n e) = is_denied (store_new n) e
    store_refuses (jumps_badly n g e) = jumps_badly (store_new n) g e

    tells_again : Tells (dropped b) (dropped l)
    tells_again = record {
      fit = t.fit;
      same = t.same;
      reached = t.reached;
      taken = ap (λ k. k + 1) t.taken;
      height = t.height;
    }

    tells_enters : Faithful → (it : Item) (post : ℕ) → New M K it b → Tells (entered K it post b) (entered log it post l)
    tells_enters F it post n = record {
      fit = F.fits b.store it noting;
      same = λ p e. same p e (ℕ_discrete p it.place);
      reached = ap (λ k. k + 1) t.reached;
      taken = ap (λ k. k + 1) t.taken;
      height = rw t.height;
    }
      where
        noting : Noting b.store it
        noting = record { fit = t.fit; below = n.below; unseen = n.unseen }

        same : (p : ℕ) → M.named p ≡ true → Dec (p ≡ it.place) → K.recall p (K.note it b.store) ≡ lookup p (it ∷ l.store)
        same p e (yes q) = rw q (F.recalls_new b.store it noting (rw q at e) ∙ sym (lookup_hit it l.store refl))
        same p e (no d) = F.recalls_old b.store it noting p e d ∙ t.same p e ∙ sym (lookup_miss it l.store d)

  -- ---- the run

  module _ (F : Faithful) where
    alike : (n : ℕ) (w : List Item) (b : Book S) (l : Book Log) → Tells b l → Alike (run M K n w b) (run M log n w l)
    unfolding run store_enters
    alike zero [] b l t = both_accepted t
    alike zero (it ∷ w) b l t = both_unfinished t
    alike (suc n) [] b l t = both_accepted t
    alike (suc n) (it ∷ w) b l t = go (taken_so M log it w l).1 (alike n)
      where
        go : {o : Turn R Log}
            → Taken M log it w l o
            → ((w' : List Item) (b' : Book S) (l' : Book Log) → Tells b' l' → Alike (run M K n w' b') (run M log n w' l'))
            → Alike (run M K (suc n) (it ∷ w) b) (run M log (suc n) (it ∷ w) l)
        go (again a) ih = rw (run_goes_on M K n (again (store_again t a)), run_goes_on M log n (again a)) (ih _ _ _ (tells_again t))
        go (enters f) ih =
            let t' = tells_enters t F it f.passes.post (store_new t f.new) in
            rw (run_goes_on M K n (enters (store_enters t f)), run_goes_on M log n (enters f)) (ih _ _ _ t')
        go (refuses s) ih =
            rw (run_stops M K n (refuses (store_refuses t s)), run_stops M log n (refuses s), t.taken) both_refused

    -- From the entry, over a store that recalls nothing yet.
    module _ {s : S} (fit : Fit s) (empty : (p : ℕ) → M.named p ≡ true → K.recall p s ≡ none) (n : ℕ) where
      walk_alike : {o : Run R S} → walk M K n s ≡ o → Alike o (walk M log n [])
      unfolding lookup
      walk_alike e =
          let t : Tells (blank s) (blank []) = record { fit = fit; same = empty; reached = refl; taken = refl; height = refl } in
          rw e at (alike n (origin M ∷ []) (blank s) (blank []) t)

      pub same_accepted : {b : Book S} → walk M K n s ≡ accepted b → (l : Book Log) × (walk M log n [] ≡ accepted l) × Tells b l
      same_accepted e = go refl (walk_alike e)
        where
          go : {b : Book S} {o : Run R Log}
              → walk M log n [] ≡ o
              → Alike (accepted b) o
              → (l : Book Log) × (walk M log n [] ≡ accepted l) × Tells b l
          go q (both_accepted {l = l} t) = (l, q, t)

      pub same_refused : {r : R} {units : ℕ} → walk M K n s ≡ refused r units → walk M log n [] ≡ refused r units
      same_refused e = go refl (walk_alike e)
        where
          go : {r : R} {units : ℕ} {o : Run R Log}
              → walk M log n [] ≡ o
              → Alike (refused r units) o
              → walk M log n [] ≡ refused r units
          go q both_refused = q

      pub same_unfinished : {w : List Item} {b : Book S}
          → walk M K n s ≡ unfinished w b
          → (l : Book Log) × (walk M log n [] ≡ unfinished w l) × Tells b l
      same_unfinished e = go refl (walk_alike e)
        where
          go : {w : List Item} {b : Book S} {o : Run R Log}
              → walk M log n [] ≡ o
              → Alike (unfinished w b) o
              → (l : Book Log) × (walk M log n [] ≡ unfinished w l) × Tells b l
          go q (both_unfinished {l = l} t) = (l, q, t)

      -- So the bounds of theorem 1 hold over the store.
      module _ {degree : ℕ → ℕ} {starts : List ℕ} (L : Laws M degree starts) where
        pub store_bounded : {w : List Item} {b : Book S}
            → walk M K n s ≡ unfinished w b
            → Bounded (sum_of degree starts) (length starts) w b
        store_bounded e =
            let (l, q, t) = same_unfinished e in
            let h = unfinished_bounded M L n q in
            record {
              room = omega (arith, t.taken, h.room);
              few = omega (arith, t.reached, h.few);
              shallow = λ it m. omega (arith, t.reached, h.shallow it m);
              low = omega (arith, t.reached, t.height, h.low);
            }

        pub store_roomy : {it : Item} {w : List Item} {b : Book S}
            → walk M K n s ≡ unfinished (it ∷ w) b
            → New M K it b
            → Roomy (sum_of degree starts) (length starts) (degree it.place) (it ∷ w) b
        store_roomy e new =
            let (l, q, t) = same_unfinished e in
            let h = unfinished_roomy M L n q (log_new t new) in
            record { room = omega (arith, t.taken, h.room); few = omega (arith, t.reached, h.few) }
