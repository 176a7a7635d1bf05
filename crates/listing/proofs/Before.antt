-- The starts from a start on that lie before an end: those, and no others.
use mathlib.Core.Bool.{Bool, true, false, cond}
use mathlib.Core.List.Memᴰ
use mathlib.Core.List.{List, [], ◌∷◌, Memᴰ}
use mathlib.Core.Logic.{◌⊎◌, inl, inr}
use mathlib.Core.Path.{◌≡◌, refl}
use Prim.Native.Nat.{ℕ, ◌+◌, ◌-◌, ◌≤◌, ◌<◌}
use native.Mathlib.Omega.{arith}
use borrow.Author.Tests.{ltb-true, lt-ltb}
use lib.Dec.{ltb}
use lib.ListN.{length}
use Rattle.code.specs.Width.{width_by}
use Rattle.code.proofs.Widths.{width_there}
use Rattle.marks.specs.Places.{RisesFrom, empty, next as then}
use Rattle.marks.proofs.Counts.{rising_lower, rising_length}
use Rattle.listing.specs.Starts.{starts_before, Start, next}
use Rattle.listing.proofs.Starts.{start_wide, start_apart, start_follows}
use Rattle.listing.proofs.WalkLaws.{Within, walk_on, walk_stop, some_or_none, from_end}

module _ (table : ℕ → ℕ) (code : List ℕ) (end : ℕ) where
  -- the width of an instruction that starts before the end, and 0 from there on
  abbrev pub cut : ℕ → ℕ
  cut at = cond (ltb at end) (width_by table code at) 0

  -- what a cut width tells: it lies before the end, and is the whole width
  pub record Uncut (at w : ℕ) : Type 0 where
    pub before : at < end
    pub whole : w ≡ width_by table code at

  pub uncut : (at : ℕ) → 0 < cut at → Uncut at (cut at)
  uncut at h = go (ltb at end) refl h
    where
      go : (t : Bool) → ltb at end ≡ t → 0 < cond t (width_by table code at) 0
          → Uncut at (cond t (width_by table code at) 0)
      go true e p = record { before = ltb-true at end e; whole = refl }
      go false e p = absurd (omega arith)

  cut_none : (at : ℕ) → width_by table code at ≡ 0 → cut at ≡ 0
  cut_none at e = go (ltb at end)
    where
      go : (t : Bool) → ◌≡◌ {A = ℕ} (cond t (width_by table code at) 0) 0
      go true = e
      go false = refl

  pub cut_within : Within cut (length code)
  cut_within = record { within = λ at h. within at h (uncut at h) }
    where
      within : (at : ℕ) → 0 < cut at → Uncut at (cut at) → at + cut at ≤ length code
      within at h u =
          let p : 0 < width_by table code at = omega (arith, u.whole) in
          omega (arith, u.whole, (width_there table code at p).within)

  pub before_on : (at : ℕ) → 0 < cut at
      → starts_before table code end at ≡ at ∷ starts_before table code end (at + cut at)
  unfolding starts_before
  before_on at h = walk_on ◌∷◌ (λ i. []) cut_within at h

  pub before_stop : (at : ℕ) → cut at ≡ 0 → starts_before table code end at ≡ []
  unfolding starts_before
  before_stop at e = walk_stop ◌∷◌ (λ i. []) cut_within at e

  -- each start from a start on that lies before the end is listed
  pub start_before : {at p : ℕ} → Start table code at → Start table code p → at ≤ p → p < end
      → Memᴰ p (starts_before table code end at)
  start_before {at} {p} s t l h = from_end cut_within From stops goes at s l
    where
      From : ℕ → Type 0
      From at = Start table code at → at ≤ p → Memᴰ p (starts_before table code end at)

      stops : (at : ℕ) → cut at ≡ 0 → From at
      stops at e s l =
          let w = start_wide table code s in
          let whole : cut at ≡ width_by table code at = rw (lt-ltb at end (omega arith)) refl in
          absurd (omega arith)

      goes : (at : ℕ) → 0 < cut at → From (at + cut at) → From at
      goes at c rest s l = rw (before_on at c) (go (some_or_none (p - at)))
        where
          go : (p - at ≡ 0) ⊎ (0 < p - at) → Memᴰ p (at ∷ starts_before table code end (at + cut at))
          go (inl e) = let same : p ≡ at = omega arith in Memᴰ.head same
          go (inr d) =
              let w = (uncut at c).whole in
              let further : at < p = omega arith in
              Memᴰ.tail (rest (rw w (start_follows table code s t further)) (omega (arith, w, start_apart table code s t further)))

  -- each that is listed is such a start
  pub record Between (from p : ℕ) : Type 0 where
    pub start : Start table code p
    pub from_on : from ≤ p
    pub before : p < end

  pub before_start : {at p : ℕ} → Start table code at → Memᴰ p (starts_before table code end at) → Between at p
  before_start {at} {p} s m = from_end cut_within From stops goes at s m
    where
      From : ℕ → Type 0
      From at = Start table code at → Memᴰ p (starts_before table code end at) → Between at p

      stops : (at : ℕ) → cut at ≡ 0 → From at
      stops at e s m = absurd (Memᴰ.not-nil (rw (before_stop at e) at m))

      goes : (at : ℕ) → 0 < cut at → From (at + cut at) → From at
      goes at c rest s m =
          go (Memᴰ.cases_cons (rw (before_on at c) at m))
          (some_or_none (width_by table code (at + width_by table code at)))
        where
          u : Uncut at (cut at)
          u = uncut at c

          go : (p ≡ at) ⊎ Memᴰ p (starts_before table code end (at + cut at))
              → (width_by table code (at + width_by table code at) ≡ 0) ⊎
              (0 < width_by table code (at + width_by table code at)) → Between at p
          go (inl e) n = record { start = rw e s; from_on = omega arith; before = omega (arith, u.before) }
          go (inr k) (inl z) =
              let none : cut (at + cut at) ≡ 0 = rw u.whole (cut_none (at + width_by table code at) z) in
              absurd (Memᴰ.not-nil (rw (before_stop (at + cut at) none) at k))
          go (inr k) (inr h) =
              let b = rest (rw u.whole (next s h)) k in
              record { start = b.start; from_on = omega (arith, b.from_on); before = b.before }

  -- they rise, and none is past the code, so there are no more of them than bytes
  before_rising : (at : ℕ) → RisesFrom at (starts_before table code end at)
  before_rising =
      from_end cut_within (λ at. RisesFrom at (starts_before table code end at)) (λ at e. rw (before_stop at e) empty)
      (λ at c r. rw (before_on at c) (then {from = at} {at = at} (omega arith) (rising_lower (omega arith) r)))

  before_code : (at p : ℕ) → Memᴰ p (starts_before table code end at) → p < length code
  before_code = from_end cut_within Inside stops goes
    where
      Inside : ℕ → Type 0
      Inside at = (p : ℕ) → Memᴰ p (starts_before table code end at) → p < length code

      stops : (at : ℕ) → cut at ≡ 0 → Inside at
      stops at e p m = absurd (Memᴰ.not-nil (rw (before_stop at e) at m))

      goes : (at : ℕ) → 0 < cut at → Inside (at + cut at) → Inside at
      goes at c rest p m = go (Memᴰ.cases_cons (rw (before_on at c) at m))
        where
          go : (p ≡ at) ⊎ Memᴰ p (starts_before table code end (at + cut at)) → p < length code
          go (inl e) = omega (arith, cut_within.within at c)
          go (inr k) = rest p k

  pub before_few : (at : ℕ) → length (starts_before table code end at) ≤ length code
  before_few at =
      omega (arith, rising_length (starts_before table code end at) (length code) (before_rising at) (before_code at))
