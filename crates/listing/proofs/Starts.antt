-- The starts of the code: in order, each once, those of the relation and no others.
use mathlib.Core.List.Memᴰ
use mathlib.Core.List.{List, [], ◌∷◌, Memᴰ}
use mathlib.Core.Logic.{◌⊎◌, inl, inr, ◌≢◌}
use mathlib.Core.Path.{◌≡◌, refl, sym, ◌∙◌}
use Prim.Native.Nat.{ℕ, ◌+◌, ◌≤◌, ◌<◌}
use native.Mathlib.Omega.{arith}
use lib.ListN.{length}
use Rattle.code.specs.Width.{width_by}
use Rattle.code.proofs.Widths.{width_there}
use Rattle.marks.specs.Marks.{total}
use Rattle.marks.specs.Places.{RisesFrom, empty, next as then, Holds, Words, ones_below, places_below}
use Rattle.marks.proofs.Counts.{rising_lower, rising_least, holds_below, holds_total}
use Rattle.listing.specs.Listing.{stop_by}
use Rattle.listing.specs.Starts.{starts_by, Start, first, next}
use Rattle.listing.proofs.WalkLaws.{Within, walk_on, walk_stop, some_or_none, from_end}

module _ (table : ℕ → ℕ) (code : List ℕ) where
  pub all_within : Within (width_by table code) (length code)
  all_within = record { within = λ at h. (width_there table code at h).within }

  pub starts_on : (at : ℕ) → 0 < width_by table code at
      → starts_by table code at ≡ at ∷ starts_by table code (at + width_by table code at)
  unfolding starts_by
  starts_on at h = walk_on ◌∷◌ (λ i. []) all_within at h

  pub starts_stop : (at : ℕ) → width_by table code at ≡ 0 → starts_by table code at ≡ []
  unfolding starts_by
  starts_stop at e = walk_stop ◌∷◌ (λ i. []) all_within at e

  pub stop_on : (at : ℕ) → 0 < width_by table code at
      → stop_by table code at ≡ stop_by table code (at + width_by table code at)
  unfolding stop_by
  stop_on at h = walk_on (λ i end. end) (λ i. i) all_within at h

  pub stop_stop : (at : ℕ) → width_by table code at ≡ 0 → stop_by table code at ≡ at
  unfolding stop_by
  stop_stop at e = walk_stop (λ i end. end) (λ i. i) all_within at e

  -- in order and each once
  pub rising : (at : ℕ) → RisesFrom at (starts_by table code at)
  rising =
      from_end all_within (λ at. RisesFrom at (starts_by table code at)) (λ at e. rw (starts_stop at e) empty)
      (λ at p r. rw (starts_on at p) (then {from = at} {at = at} (omega arith) (rising_lower (omega arith) r)))

  -- each place that is listed is a start
  pub listed_start : (i : ℕ) → Memᴰ i (starts_by table code 0) → Start table code i
  listed_start = from_end all_within From stops goes 0 first
    where
      From : ℕ → Type 0
      From at =
          (0 < width_by table code at → Start table code at) → (i : ℕ) → Memᴰ i
          (starts_by table code at) → Start table code i

      stops : (at : ℕ) → width_by table code at ≡ 0 → From at
      stops at e s i m = absurd (Memᴰ.not-nil (rw (starts_stop at e) at m))

      goes : (at : ℕ) → 0 < width_by table code at → From (at + width_by table code at) → From at
      goes at p rest s i m = go (Memᴰ.cases_cons (rw (starts_on at p) at m))
        where
          go : (i ≡ at) ⊎ Memᴰ i (starts_by table code (at + width_by table code at)) → Start table code i
          go (inl e) = rw e (s p)
          go (inr k) = rest (λ q. next (s p) q) i k

  -- a start has a width
  pub start_wide : {i : ℕ} → Start table code i → 0 < width_by table code i
  start_wide (first h) = h
  start_wide (next s h) = h

  -- what is listed from a start on is listed from 0 on
  later : {i : ℕ} → Start table code i → (j : ℕ) → Memᴰ j (starts_by table code i)
      → Memᴰ j (starts_by table code 0)
  later (first h) j m = m
  later (next {at = at} s h) j m = later s j (rw (starts_on at (start_wide s)) (Memᴰ.tail m))

  -- each start is listed
  pub start_listed : (i : ℕ) → Start table code i → Memᴰ i (starts_by table code 0)
  start_listed i s = later s i (rw (starts_on i (start_wide s)) (Memᴰ.head refl))

  -- marks that hold exactly the starts have as many ones below an offset as there are starts below it, and as many in
  -- all as there are starts
  pub starts_below : (marks : List ℕ) → Holds marks (starts_by table code 0) → (n : ℕ)
      → ones_below marks n ≡ places_below (starts_by table code 0) n
  starts_below marks h = holds_below marks (starts_by table code 0) h (rising 0)

  pub starts_total : (marks : List ℕ) → Words marks → Holds marks (starts_by table code 0)
      → total marks ≡ length (starts_by table code 0)
  starts_total marks w h = holds_total marks (starts_by table code 0) w h (rising 0)

  -- ---- the order of the starts

  after : {p : ℕ} → Start table code p → (q : ℕ) → Memᴰ q (starts_by table code 0)
      → (q ≤ p) ⊎ Memᴰ q (starts_by table code (p + width_by table code p))
  after (first h) q m = go (Memᴰ.cases_cons (rw (starts_on 0 h) at m))
    where
      go : (q ≡ 0) ⊎ Memᴰ q (starts_by table code (0 + width_by table code 0))
          → (q ≤ 0) ⊎ Memᴰ q (starts_by table code (0 + width_by table code 0))
      go (inl e) = inl (omega arith)
      go (inr k) = inr k
  after (next {at = at} s h) q m = go (after s q m)
    where
      p : ℕ
      p = at + width_by table code at

      here_or_later : (q ≡ p) ⊎ Memᴰ q (starts_by table code (p + width_by table code p))
          → (q ≤ p) ⊎ Memᴰ q (starts_by table code (p + width_by table code p))
      here_or_later (inl e) = inl (omega arith)
      here_or_later (inr k) = inr k

      go : (q ≤ at) ⊎ Memᴰ q (starts_by table code p)
          → (q ≤ p) ⊎ Memᴰ q (starts_by table code (p + width_by table code p))
      go (inl l) = inl (omega arith)
      go (inr k) = here_or_later (Memᴰ.cases_cons (rw (starts_on p h) at k))

  -- a start after another is listed from the instruction after that one on
  pub start_after : {p q : ℕ} → Start table code p → Start table code q → p < q
      → Memᴰ q (starts_by table code (p + width_by table code p))
  start_after {p} {q} s t l = go (after s q (start_listed q t))
    where
      go : (q ≤ p) ⊎ Memᴰ q (starts_by table code (p + width_by table code p))
          → Memᴰ q (starts_by table code (p + width_by table code p))
      go (inl h) = absurd (omega arith)
      go (inr m) = m

  -- so no instruction starts within another
  pub start_apart : {p q : ℕ} → Start table code p → Start table code q → p < q → p + width_by table code p ≤ q
  start_apart s t l = rising_least (rising _) (start_after s t l)

  -- and after each start but the last comes another
  pub start_follows : {p q : ℕ} → Start table code p → Start table code q → p < q
      → Start table code (p + width_by table code p)
  start_follows {p} {q} s t l = go (some_or_none (width_by table code (p + width_by table code p)))
    where
      go : (width_by table code (p + width_by table code p) ≡ 0) ⊎ (0 < width_by table code (p + width_by table code p))
          → Start table code (p + width_by table code p)
      go (inl e) = absurd (Memᴰ.not-nil (rw (starts_stop _ e) at (start_after s t l)))
      go (inr h) = next s h

  -- ---- where they stop

  stop_from : {p : ℕ} → Start table code p → stop_by table code 0 ≡ stop_by table code (p + width_by table code p)
  stop_from (first h) = stop_on 0 h
  stop_from (next s h) = stop_from s ∙ stop_on _ h

  -- after a start comes another, or the place where they stop
  pub start_next : {p : ℕ} → Start table code p → p + width_by table code p ≢ stop_by table code 0
      → Start table code (p + width_by table code p)
  start_next {p} s n = go (some_or_none (width_by table code (p + width_by table code p)))
    where
      go : (width_by table code (p + width_by table code p) ≡ 0) ⊎ (0 < width_by table code (p + width_by table code p))
          → Start table code (p + width_by table code p)
      go (inl e) = absurd (n (sym (stop_from s ∙ stop_stop _ e)))
      go (inr h) = next s h
