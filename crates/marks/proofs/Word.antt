-- The laws of one word: its binary digits, and what setting one of them does to the others and to the count of ones.
use mathlib.Core.Path.{◌≡◌, refl, sym, ap, ap₂, ◌∙◌}
use mathlib.Core.Logic.{◌⊎◌, inl, inr, ◌≢◌}
use Prim.Native.Nat.{ℕ, zero, suc, ◌+◌, ◌-◌, ◌*◌, ◌/◌, ◌%◌, ◌^◌, ◌<◌}
use native.Mathlib.Decide.{dec_lt}
use native.Mathlib.Nat.{add-zero, one-mul, mod-lt, mod-eq_of_lt, div-eq_of_lt, div_self, mul-div_cancel, mul-mod_left}
use native.Mathlib.Nat.{pow-suc, mod-one}
use native.Mathlib.Numerals.{one-add}
use native.Mathlib.Omega.{arith}
use lib.Bits.{bit_or, or_shr, or_mod, or_block, or_step, or_zero_r}
use lib.Count.{ones, ones_in, ones_step, ones_cat}
use lib.Dec.{lit<}
use lib.Pow.{split, pow_pos, pow-lt, pow-add, mod-pow-add}

-- ---- digits

-- the j-th digit of a word
abbrev pub digit : ℕ → ℕ → ℕ
digit x j = x / 2 ^ j % 2

-- it is 0 or 1
digit_lt : (x j : ℕ) → digit x j < 2
digit_lt x j = mod-lt (x / 2 ^ j) (lit< tt)

-- a number below 2 is one of the two
pub zero_or_one : (b : ℕ) → b < 2 → (b ≡ 0) ⊎ (b ≡ 1)
zero_or_one zero h = inl refl
zero_or_one (suc zero) h = inr refl
zero_or_one (suc (suc b)) h = absurd (omega arith)

-- the low k + 1 digits are the k-th and the low k
mod_more : (x k : ℕ) → x % 2 ^ suc k ≡ digit x k * 2 ^ k + x % 2 ^ k
mod_more x k = rw (← one-add k) (mod-pow-add x 1 k)

-- two words whose low k digits agree are the same there
same_mod : (x y k : ℕ) → ((j : ℕ) → j < k → digit x j ≡ digit y j) → x % 2 ^ k ≡ y % 2 ^ k
same_mod x y zero h = mod-one x ∙ sym (mod-one y)
same_mod x y (suc k) h =
    mod_more x k
    ∙ ap₂ (λ (d r : ℕ). d * 2 ^ k + r) (h k (omega arith)) (same_mod x y k (λ j l. h j (omega arith)))
    ∙ sym (mod_more y k)

-- two words of k digits that agree in each are equal
pub same_digits : (x y k : ℕ) → x < 2 ^ k → y < 2 ^ k → ((j : ℕ) → j < k → digit x j ≡ digit y j) → x ≡ y
same_digits x y k l m h = sym (mod-eq_of_lt l) ∙ same_mod x y k h ∙ mod-eq_of_lt m

-- ---- the ones

-- 0 has none
pub ones_zero : ones 0 ≡ 0
unfolding ones ones_in
ones_zero = refl

-- a digit is its own count of ones
ones_digit : (b : ℕ) → b < 2 → ones b ≡ b
unfolding ones ones_in
ones_digit zero h = refl
ones_digit (suc zero) h = refl
ones_digit (suc (suc b)) h = absurd (omega arith)

-- the ones of the low k + 1 digits are those of the low k, and the k-th
pub ones_more : (x k : ℕ) → ones (x % 2 ^ suc k) ≡ ones (x % 2 ^ k) + digit x k
ones_more x k =
    rw (mod_more x k)
    (omega (arith, ones_cat k (digit x k) (x % 2 ^ k) (mod-lt x (pow_pos k)), ones_digit (digit x k) (digit_lt x k)))

-- ---- a digit set

-- the digits of an or are the ors of the digits
digit_or : (x y j : ℕ) → digit (bit_or x y) j ≡ bit_or (digit x j) (digit y j)
digit_or x y j = rw or_shr (or_mod (x / 2 ^ j) (y / 2 ^ j) 1)

-- a power of two has its own digit set
power_same : (k : ℕ) → digit (2 ^ k) k ≡ 1
power_same k = rw (div_self (pow_pos k))

-- and no other: none below it
power_below : (j m : ℕ) → digit (2 ^ (suc m + j)) j ≡ 0
power_below j m = rw (pow-add 2 (suc m) j, mul-div_cancel (2 ^ suc m) (pow_pos j), pow-suc 2 m) (mul-mod_left (2 ^ m) 2)

-- nor above
power_other : (j k : ℕ) → j ≢ k → digit (2 ^ k) j ≡ 0
power_other j k n =
    elim (dec_lt j k) [
      | yes l ↦ let e : k ≡ suc (k - j - 1) + j = omega arith in rw e (power_below j (k - j - 1))
      | no g ↦ let l : k < j = omega arith in rw (div-eq_of_lt (pow-lt l))
    ]

-- a number with its lowest digit set
or_low : (n : ℕ) → bit_or n 1 ≡ n / 2 * 2 + 1
or_low n = or_step n 1 ∙ rw or_zero_r (omega arith)

-- the digit that is set is 1
pub digit_set : (x k : ℕ) → digit (bit_or x (2 ^ k)) k ≡ 1
digit_set x k = rw (digit_or x (2 ^ k) k, power_same k) (omega (arith, or_low (digit x k)))

-- and every other is as before
pub digit_kept : (x k j : ℕ) → j ≢ k → digit (bit_or x (2 ^ k)) j ≡ digit x j
digit_kept x k j n = rw (digit_or x (2 ^ k) j, power_other j k n) (or_zero_r (digit x j))

-- the low k digits stay, and of what stands above them the lowest digit is set
or_split : (x k : ℕ) → bit_or x (2 ^ k) ≡ bit_or (x / 2 ^ k) 1 * 2 ^ k + x % 2 ^ k
or_split x k =
    ap₂ bit_or (sym (split x k)) (sym (add-zero (1 * 2 ^ k) ∙ one-mul (2 ^ k)))
    ∙ or_block k (x / 2 ^ k) 1 (x % 2 ^ k) 0 (mod-lt x (pow_pos k)) (pow_pos k)
    ∙ ap (λ (y : ℕ). bit_or (x / 2 ^ k) 1 * 2 ^ k + y) (or_zero_r (x % 2 ^ k))

-- setting a digit that is set changes nothing
pub set_again : (x k : ℕ) → digit x k ≡ 1 → bit_or x (2 ^ k) ≡ x
set_again x k e =
    let odd : bit_or (x / 2 ^ k) 1 ≡ x / 2 ^ k = omega (arith, or_low (x / 2 ^ k)) in
    or_split x k ∙ rw odd (split x k)

-- setting a lowest digit that is clear adds one to the ones
low_clear : (n : ℕ) → n % 2 ≡ 0 → ones (bit_or n 1) ≡ ones n + 1
low_clear n e = rw (or_low n) (omega (arith, ones_cat 1 (n / 2) 1 (lit< tt), ones_digit 1 (lit< tt), ones_step n))

-- and so does setting any digit that is clear
pub set_clear : (x k : ℕ) → digit x k ≡ 0 → ones (bit_or x (2 ^ k)) ≡ ones x + 1
set_clear x k e =
    let high : ℕ = x / 2 ^ k in
    let low : ℕ = x % 2 ^ k in
    let h : low < 2 ^ k = mod-lt x (pow_pos k) in
    rw (or_split x k)
    (omega (arith, low_clear high e, ones_cat k (bit_or high 1) low h, ones_cat k high low h, ap ones (split x k)))
