-- A walk goes on at an instruction and stops where there is none: all that its users need to know of how it is defined.
use mathlib.Core.Path.{◌≡◌, refl, sym, ap, ◌∙◌}
use mathlib.Core.Logic.{◌⊎◌, inl, inr}
use Prim.Native.Nat.{ℕ, zero, suc, ◌+◌, ◌≤◌, ◌<◌}
use native.Mathlib.Omega.{arith}
use Rattle.listing.specs.Starts.{in_turn}

-- no instruction reaches past the end
pub record Within (width : ℕ → ℕ) (end : ℕ) : Type 0 where
  pub within : (at : ℕ) → 0 < width at → at + width at ≤ end

module _ {A : Type 0} {width : ℕ → ℕ} (step : ℕ → A → A) (stop : ℕ → A) {end : ℕ} (W : Within width end) where
  -- once the end is within reach, one instruction more changes nothing
  enough : (n at : ℕ) → end ≤ at + n → in_turn width step stop (suc n) at ≡ in_turn width step stop n at
  unfolding in_turn
  enough zero at h = go (width at) refl
    where
      go : (w : ℕ) → width at ≡ w
          → ◌≡◌ {A = A} (elim w [ zero ↦ stop at | suc v ↦ step at (stop (at + suc v)) ]) (stop at)
      go zero e = refl
      go (suc w) e = absurd (omega (arith, W.within at (omega arith)))
  enough (suc n) at h = go (width at) refl (λ w p. enough n (at + w) (omega arith))
    where
      go : (w : ℕ) → width at ≡ w
          → ((v : ℕ) → 0 < v → in_turn width step stop (suc n) (at + v) ≡ in_turn width step stop n (at + v))
          → ◌≡◌ {A = A} (elim w [ zero ↦ stop at | suc v ↦ step at (in_turn width step stop (suc n) (at + suc v)) ])
          (elim w [ zero ↦ stop at | suc v ↦ step at (in_turn width step stop n (at + suc v)) ])
      go zero e more = refl
      go (suc w) e more = ap (step at) (more (suc w) (omega arith))

  pub walk_on : (at : ℕ) → 0 < width at
      → in_turn width step stop end at ≡ step at (in_turn width step stop end (at + width at))
  unfolding in_turn
  walk_on at h = sym (enough end at (omega arith)) ∙ go (width at) refl h
    where
      go : (w : ℕ) → width at ≡ w → 0 < w
          → ◌≡◌ {A = A} (elim w [ zero ↦ stop at | suc v ↦ step at (in_turn width step stop end (at + suc v)) ])
          (step at (in_turn width step stop end (at + w)))
      go zero e p = absurd (omega arith)
      go (suc w) e p = refl

  pub walk_stop : (at : ℕ) → width at ≡ 0 → in_turn width step stop end at ≡ stop at
  unfolding in_turn
  walk_stop at e = sym (enough end at (omega arith)) ∙ go (width at) e
    where
      go : (w : ℕ) → w ≡ 0 → ◌≡◌ {A = A}
          (elim w [ zero ↦ stop at | suc v ↦ step at (in_turn width step stop end (at + suc v)) ]) (stop at)
      go zero e = refl
      go (suc w) e = absurd (omega arith)

-- a number is 0 or more
pub some_or_none : (n : ℕ) → (n ≡ 0) ⊎ (0 < n)
some_or_none zero = inl refl
some_or_none (suc n) = inr (omega arith)

-- One induction over the instructions from an offset on: what holds where they stop, and before an instruction where it
-- holds after it, holds everywhere.
module _ {width : ℕ → ℕ} {end : ℕ} (W : Within width end) (P : ℕ → Type 0) (stops : (at : ℕ) → width at ≡ 0 → P at)
    (goes : (at : ℕ) → 0 < width at → P (at + width at) → P at) where
  down : (n at : ℕ) → end ≤ at + n → P at
  down zero at h = go (some_or_none (width at))
    where
      go : (width at ≡ 0) ⊎ (0 < width at) → P at
      go (inl e) = stops at e
      go (inr p) = absurd (omega (arith, W.within at p))
  down (suc n) at h = go (some_or_none (width at)) (λ p. down n (at + width at) (omega arith))
    where
      go : (width at ≡ 0) ⊎ (0 < width at) → (0 < width at → P (at + width at)) → P at
      go (inl e) rest = stops at e
      go (inr p) rest = goes at p (rest p)

  pub from_end : (at : ℕ) → P at
  from_end at = down end at (omega arith)
