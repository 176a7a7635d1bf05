-- A finished table of items: no place stands in it twice, each item is on a path, and it is closed under the edges. Such a table, whichever
-- engine made it, holds every item on a path, measures the chunk, and writes depths beside its instructions.
use mathlib.Core.Path.{◌≡◌, refl, sym, ◌∙◌}
use mathlib.Core.List.{List, [], ◌∷◌, map}
use mathlib.Core.Logic.{◌⊎◌, inl, inr}
use mathlib.Core.Option.{none, some}
use Prim.Native.Nat.{ℕ, ◌+◌, ◌≤◌, max}
use native.Mathlib.Decide.{ℕ_discrete, dec_le}
use native.Mathlib.Nat.{max-eq_left, max-eq_right}
use native.Mathlib.Omega.{arith}
use lib.ListN.{length, length-map}
use borrow.Author.Tests.{eq-eqb, ne_eqb}
use Rattle.machine.specs.Lists.{◌∈◌, here, there, NoRepeats, sum_of}
use Rattle.answer.specs.Depths.{Item}
use Rattle.answer.specs.declared.Depths.{Depths}
use Rattle.machine.specs.Walk.{Ruling, denies, gives, Machine, origin, lookup}
use Rattle.answer.proofs.Apart.{zero≢one}
use Rattle.machine.proofs.Lists.{∉-nil, ∈-cases, ∈-map, map_∈}
use Rattle.machine.proofs.Laws.{InChunk, Passes}
use Rattle.machine.proofs.Paths.{edges, Reached, begins, follows, OnPath, stand_at, stand_after, Good, Writing}
use Rattle.machine.proofs.Paths.{Measured}

abbrev pub places : List Item → List ℕ
places t = map (λ it. it.place) t

pub place_∈ : {it : Item} (t : List Item) → it ∈ t → it.place ∈ places t
place_∈ t m = ∈-map (λ (it : Item). it.place) t m

-- ---- looking up a place

module _ {p : ℕ} (x : Item) (t : List Item) where
  pub lookup_hit : p ≡ x.place → lookup p (x ∷ t) ≡ some x.depths
  unfolding lookup
  lookup_hit e = rw (eq-eqb p x.place e, lookup)

  pub lookup_miss : ¬ (p ≡ x.place) → lookup p (x ∷ t) ≡ lookup p t
  unfolding lookup
  lookup_miss n = rw (ne_eqb p x.place n, lookup)

pub lookup_none : (p : ℕ) (t : List Item) → lookup p t ≡ none → ¬ (p ∈ places t)
lookup_none p [] e m = ∉-nil m
lookup_none p (x ∷ t) e m = go (ℕ_discrete p x.place) (∈-cases m) (lookup_none p t)
  where
    go : Dec (p ≡ x.place) → (p ≡ x.place) ⊎ (p ∈ places t) → (lookup p t ≡ none → ¬ (p ∈ places t)) → ⊥
    go (yes q) h ih = zero≢one (cc (lookup_hit x t q))
    go (no n) (inl q) ih = n q
    go (no n) (inr h) ih = ih (sym (lookup_miss x t n) ∙ e) h

pub lookup_some : (it : Item) (t : List Item) → lookup it.place t ≡ some it.depths → it ∈ t
unfolding lookup
lookup_some it [] e = absurd (zero≢one (cc))
lookup_some it (x ∷ t) e = go (ℕ_discrete it.place x.place) (lookup_some it t)
  where
    go : Dec (it.place ≡ x.place) → (lookup it.place t ≡ some it.depths → it ∈ t) → it ∈ (x ∷ t)
    go (yes q) ih = let d : it.depths ≡ x.depths = cc (lookup_hit x t q) in here (λ i. record { place = q i; depths = d i })
    go (no n) ih = there (ih (sym (lookup_miss x t n) ∙ e))

-- With no place twice, whatever stands in the table is looked up.
pub lookup_in : (it : Item) (t : List Item) → NoRepeats (places t) → it ∈ t → lookup it.place t ≡ some it.depths
lookup_in it [] nr x'' = elim x'' [ ]
lookup_in it (x ∷ t) nr (here e) = rw e (lookup_hit x t refl)
lookup_in it (x ∷ t) nr (there m) = lookup_miss x t (λ e. nr.0 (rw e at (place_∈ t m))) ∙ lookup_in it t nr.1 m

-- ---- the height of a table

-- The larger of two numbers is one of them.
max_is : (P : ℕ → Type 0) (a b : ℕ) → P a → P b → P (max a b)
max_is P a b x y = go (dec_le a b)
  where
    go : Dec (a ≤ b) → P (max a b)
    go (yes h) = rw (max-eq_right h) y
    go (no n) = let h : b ≤ a = omega arith in rw (max-eq_left h) x

unfoldable pub post_of : {R : Type 0} → Ruling R → ℕ
post_of (denies r) = 0
post_of (gives post fall jumps) = post

module _ {R : Type 0} (M : Machine R) where
  -- The largest number of operands at an item of the table, or just after it.
  unfoldable pub top : List Item → ℕ
  top [] = 0
  top (it ∷ t) = max (top t) (max it.depths.operands (post_of (M.rule it.place it.depths)))

  pub top_more : {it : Item} (g : Passes M it) (t : List Item) → top (it ∷ t) ≡ max (top t) (max it.depths.operands g.post)
  unfolding top post_of
  top_more g t = rw g.ruled

  top_at : {it : Item} (t : List Item) → it ∈ t → it.depths.operands ≤ top t
  unfolding top
  top_at {it = it} [] x' = elim x' [ ]
  top_at (x ∷ t) (here e) = rw e (omega arith)
  top_at (x ∷ t) (there m) = omega (arith, top_at t m)

  top_after : {it : Item} (t : List Item) → it ∈ t → (g : Passes M it) → g.post ≤ top t
  unfolding top post_of
  top_after (x ∷ t) (here e) g = let q : post_of (M.rule x.place x.depths) ≡ g.post = cc g.ruled in omega arith
  top_after {it = it} [] x' g = elim x' [ ]
  top_after (x ∷ t) (there m) g = omega (arith, top_after t m g)

  -- ---- finished tables

  pub record Finished (t : List Item) : Type 0 where
    pub no_repeats : NoRepeats (places t)
    pub inside : {it : Item} → it ∈ t → InChunk M it.place
    pub on_path : {it : Item} → it ∈ t → Reached M it
    pub begun : origin M ∈ t
    pub passes : {it : Item} → it ∈ t → Passes M it
    pub closed : {it e : Item} → it ∈ t → e ∈ edges M it → e ∈ t

  module _ {t : List Item} (F : Finished t) where
    -- Nothing on a path is missing.
    pub holds : {it : Item} → Reached M it → it ∈ t
    holds (begins e) = rw e F.begun
    holds (follows r c m) = F.closed (holds r) m

    top_on_path : (u : List Item) → ((it : Item) → it ∈ u → it ∈ t) → OnPath M (top u)
    unfolding top
    top_on_path [] sub = stand_at (begins refl) (F.inside F.begun)
    top_on_path (x ∷ u) sub =
        let m : x ∈ t = sub x (here refl) in
        let at_x = stand_at (F.on_path m) (F.inside m) in
        let after-x = stand_after (F.on_path m) (F.inside m) (F.passes m) in
        let rest = top_on_path u (λ it k. sub it (there k)) in
        rw (top_more (F.passes m) u) (max_is (OnPath M) _ _ rest (max_is (OnPath M) _ _ at_x after-x))

    pub finished_measures : (degree : ℕ → ℕ) → Measured M degree (length t) (1 + sum_of degree (places t)) (top t)
    finished_measures degree = record {
      places = places t;
      no_repeats = F.no_repeats;
      inside = λ p m. inside (map_∈ (λ (it : Item). it.place) t m);
      on_path = λ p m. on_path (map_∈ (λ (it : Item). it.place) t m);
      all = λ it r. place_∈ t (holds r);
      counted = sym (length-map t (λ (it : Item). it.place));
      summed = refl;
      attained = top_on_path t (λ it m. m);
      largest = largest;
    }
      where
        inside : {p : ℕ} → (it : Item) × (it ∈ t) × (it.place ≡ p) → InChunk M p
        inside x = rw (← x.2) (F.inside x.1)

        on_path : {p : ℕ}
            → (it : Item) × (it ∈ t) × (it.place ≡ p)
            → (d : Depths) × Reached M (record { place = p; depths = d })
        on_path x = (x.0.depths, rw (← x.2) (F.on_path x.1))

        largest : (h : ℕ) → OnPath M h → h ≤ top t
        largest h (stand_at r c) = top_at t (holds r)
        largest h (stand_after r c g) = top_after t (holds r) g

    pub finished_writes : Writing M (top t) (λ p. lookup p t)
    finished_writes = record {
      begun = lookup_in (origin M) t F.no_repeats F.begun;
      good = λ it e. good (lookup_some it t e);
    }
      where
        good : {it : Item} → it ∈ t → Good M (λ p. lookup p t) (top t) it
        good m = record {
          inside = F.inside m;
          passes = F.passes m;
          borne = λ e k. lookup_in e t F.no_repeats (F.closed m k);
          low = top_at t m;
          low_after = top_after t m (F.passes m);
        }
