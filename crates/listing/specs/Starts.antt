-- The instructions in turn: one recursion over them, of which whatever is said of "the instructions in turn" is an
-- instance, and the offsets at which they start. Document 01, "Modules": "offset, tag and width in turn".
use Rattle.std.specs.Prelude.{cond, List, [], ◌∷◌, ℕ, zero, suc, ◌+◌, ◌<◌, ltb, length}
use Rattle.code.specs.Width.{width_of, width_by}

-- from an offset on, a step at each instruction, and a stop at the first offset without one; at most so many. Where no
-- instruction reaches past the code's end, as many as it has bytes are never too few
module _ {A : Type 0} (width : ℕ → ℕ) (step : ℕ → A → A) (stop : ℕ → A) where
  unfoldable pub in_turn : (most at : ℕ) → A
  in_turn zero at = stop at
  in_turn (suc n) at = elim (width at) [ zero ↦ stop at | suc w ↦ step at (in_turn n (at + suc w)) ]

-- by any table of widths
module _ (table : ℕ → ℕ) (code : List ℕ) where
  -- the starts from an offset on
  unfoldable pub starts_by : ℕ → List ℕ
  starts_by at = in_turn (width_by table code) ◌∷◌ (λ i. []) (length code) at

  -- those that lie before an end
  unfoldable pub starts_before : (end at : ℕ) → List ℕ
  starts_before end at = in_turn (λ i. cond (ltb i end) (width_by table code i) 0) ◌∷◌ (λ i. []) (length code) at

  -- an instruction starts here: at the code's first byte or right after another, and it has a width
  pub data Start : ℕ → Type 0 where
    first : 0 < width_by table code 0 → Start 0
    next : {at : ℕ} → Start at → 0 < width_by table code (at + width_by table code at)
        → Start (at + width_by table code at)

-- all of them by document 01's table
abbrev pub starts : List ℕ → List ℕ
starts code = starts_by width_of code 0
