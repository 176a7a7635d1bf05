-- The laws of marks: what setting one place or several does to the bits, the words and the count of ones, and that the
-- bits tell the words.
use mathlib.Core.Path.{◌≡◌, refl, sym, ◌∙◌}
use mathlib.Core.List.Memᴰ
use mathlib.Core.List.{List, [], ◌∷◌, Memᴰ}
use mathlib.Core.Logic.{◌⊎◌, ⊎_elim, ◌≢◌}
use Prim.Native.Nat.{ℕ, zero, suc, ◌+◌, ◌*◌, ◌/◌, ◌%◌, ◌^◌, ◌≤◌, ◌<◌}
use native.Mathlib.Decide.{dec_lt, ℕ_discrete}
use native.Mathlib.Nat.{zero-div, mod-lt, not-suc-le-zero, le_of_suc-le-suc}
use native.Mathlib.Omega.{arith}
use lib.Bits.{bit_or, or_lt}
use lib.Count.{ones}
use lib.Dec.{lit<}
use lib.ListN.{length, get_or, set, replicate, length-set, length-replicate, get_or-eq_default}
use lib.Pow.{pow-lt}
use lib.Seq.{get_or-set_same, get_or-set_other, set_out, set-get_or, ext_get_or}
use Rattle.marks.specs.Marks.{marked, marked_all, total}
use Rattle.marks.specs.Places.{bit_at, Holds, InWords, Words}
use Rattle.marks.proofs.Word.{digit, zero_or_one, same_digits, ones_zero, digit_set, digit_kept, set_again}
use Rattle.marks.proofs.Word.{set_clear}

-- ---- the bit of a place

-- it is 0 or 1
pub bit_either : (marks : List ℕ) (i : ℕ) → (bit_at marks i ≡ 0) ⊎ (bit_at marks i ≡ 1)
unfolding bit_at
bit_either marks i = zero_or_one (bit_at marks i) (mod-lt _ (lit< tt))

-- it is a digit of its word
pub bit_word : (marks : List ℕ) (k j : ℕ) → j < 64 → bit_at marks (64 * k + j) ≡ digit (get_or marks k 0) j
unfolding bit_at
bit_word marks k j h =
    let word : (64 * k + j) / 64 ≡ k = omega arith in
    let bit : (64 * k + j) % 64 ≡ j = omega arith in
    rw (word, bit)

-- past the words it is 0
pub bit_past : (marks : List ℕ) (i : ℕ) → length marks ≤ i / 64 → bit_at marks i ≡ 0
unfolding bit_at
bit_past marks i h = rw (get_or-eq_default marks 0 h, zero-div (2 ^ (i % 64)))

-- so a place that is set lies within them
pub bit_within : (marks : List ℕ) (i : ℕ) → bit_at marks i ≡ 1 → i / 64 < length marks
bit_within marks i e =
    elim (dec_lt (i / 64) (length marks)) [ yes h ↦ h | no g ↦ absurd (omega (arith, bit_past marks i (omega arith))) ]

-- ---- one place set

-- a word stored among words
words_set : (l : List ℕ) (i v : ℕ) → v < 2 ^ 64 → Words l → Words (set l i v)
words_set [] i v h w j = w j
words_set (x ∷ l) zero v h w zero = h
words_set (x ∷ l) zero v h w (suc j) = w (suc j)
words_set (x ∷ l) (suc i) v h w zero = w zero
words_set (x ∷ l) (suc i) v h w (suc j) = words_set l i v h (λ k. w (suc k)) j

-- a word stored for another: its ones for the other's
total_set : (l : List ℕ) (i v : ℕ) → i < length l → total (set l i v) + ones (get_or l i 0) ≡ total l + ones v
unfolding total
total_set [] i v h = absurd (not-suc-le-zero h)
total_set (x ∷ l) zero v h = omega arith
total_set (x ∷ l) (suc i) v h = omega (arith, total_set l i v (le_of_suc-le-suc h))

module _ (marks : List ℕ) (at : ℕ) where
  -- there are as many words as before
  pub length_marked : length (marked marks at) ≡ length marks
  unfolding marked
  length_marked = length-set marks (at / 64) _

  -- words stay words
  pub words_marked : Words marks → Words (marked marks at)
  unfolding marked
  words_marked w = words_set marks (at / 64) _ (or_lt 64 _ _ (w (at / 64)) (pow-lt {j = 64} (omega arith))) w

  -- the place that is set reads as 1
  pub bit_same : at / 64 < length marks → bit_at (marked marks at) at ≡ 1
  unfolding bit_at marked
  bit_same h = rw (get_or-set_same marks (at / 64) _ 0 h) (digit_set (get_or marks (at / 64) 0) (at % 64))

  -- every other place reads as before
  pub bit_other : (i : ℕ) → i ≢ at → bit_at (marked marks at) i ≡ bit_at marks i
  unfolding bit_at marked
  bit_other i n =
      elim (ℕ_discrete (i / 64) (at / 64)) [
        | yes e ↦
            elim (dec_lt (at / 64) (length marks)) [
              | yes h ↦
                  rw (e, get_or-set_same marks (at / 64) _ 0 h)
                  (digit_kept (get_or marks (at / 64) 0) (at % 64) (i % 64) (λ q. n (omega arith)))
              | no g ↦ rw (set_out marks (at / 64) _ (omega arith))
            ]
        | no d ↦ rw (get_or-set_other marks (at / 64) (i / 64) _ 0 d)
      ]

  -- setting a place that is set changes nothing
  pub marked_again : bit_at marks at ≡ 1 → marked marks at ≡ marks
  unfolding bit_at marked
  marked_again e = rw (set_again (get_or marks (at / 64) 0) (at % 64) e) (set-get_or marks (at / 64) 0)

  -- setting a place that is clear adds one to the ones
  pub total_marked : at / 64 < length marks → bit_at marks at ≡ 0 → total (marked marks at) ≡ total marks + 1
  unfolding bit_at marked
  total_marked h e =
      let word : ℕ = get_or marks (at / 64) 0 in
      omega (arith, set_clear word (at % 64) e, total_set marks (at / 64) (bit_or word (2 ^ (at % 64))) h)

-- ---- cleared marks

-- every word of cleared marks is 0
zeros_word : (n k : ℕ) → ◌≡◌ {A = ℕ} (get_or (replicate n 0) k 0) 0
zeros_word zero k = refl
zeros_word (suc n) zero = refl
zeros_word (suc n) (suc k) = zeros_word n k

-- so all fit
pub zeros_words : (n : ℕ) → Words (replicate n 0)
zeros_words n i = rw (zeros_word n i) (lit< tt)

-- no place is set
pub zeros_bit : (n i : ℕ) → bit_at (replicate n 0) i ≡ 0
unfolding bit_at
zeros_bit n i = rw (zeros_word n (i / 64), zero-div (2 ^ (i % 64)))

-- and there are no ones
pub zeros_total : (n : ℕ) → total (replicate n 0) ≡ 0
unfolding total
zeros_total zero = refl
zeros_total (suc n) = omega (arith, ones_zero, zeros_total n)

-- ---- several places set

-- there are as many words as before
pub length_all : (marks ats : List ℕ) → length (marked_all marks ats) ≡ length marks
unfolding marked_all
length_all marks [] = refl
length_all marks (at ∷ ats) = length_all (marked marks at) ats ∙ length_marked marks at

-- words stay words
pub words_all : (marks ats : List ℕ) → Words marks → Words (marked_all marks ats)
unfolding marked_all
words_all marks [] w = w
words_all marks (at ∷ ats) w = words_all (marked marks at) ats (words_marked marks at w)

-- a place that is set stays set, whichever is set next
bit_kept : (marks : List ℕ) (at i : ℕ) → bit_at marks i ≡ 1 → bit_at (marked marks at) i ≡ 1
bit_kept marks at i e =
    elim (ℕ_discrete i at) [
      | yes q ↦ rw (marked_again marks at (rw q at e)) e
      | no n ↦ bit_other marks at i n ∙ e
    ]

-- and stays so over several
pub all_kept : (marks ats : List ℕ) (i : ℕ) → bit_at marks i ≡ 1 → bit_at (marked_all marks ats) i ≡ 1
unfolding marked_all
all_kept marks [] i e = e
all_kept marks (at ∷ ats) i e = all_kept (marked marks at) ats i (bit_kept marks at i e)

-- each of the places is set
pub all_in : (marks ats : List ℕ) → InWords (length marks) ats → (i : ℕ) → Memᴰ i ats
    → bit_at (marked_all marks ats) i ≡ 1
unfolding marked_all
all_in marks [] h i x'' = elim x'' [ ]
all_in marks (at ∷ ats) h i (Memᴰ.head e) =
    all_kept (marked marks at) ats i (rw e (bit_same marks at (h at (Memᴰ.head refl))))
all_in marks (at ∷ ats) h i (Memᴰ.tail m) =
    all_in (marked marks at) ats (λ s k. rw length_marked (h s (Memᴰ.tail k))) i m

-- every other place reads as before
pub all_out : (marks ats : List ℕ) (i : ℕ) → (Memᴰ i ats → ⊥) → bit_at (marked_all marks ats) i ≡ bit_at marks i
unfolding marked_all
all_out marks [] i o = refl
all_out marks (at ∷ ats) i o =
    all_out (marked marks at) ats i (λ m. o (Memᴰ.tail m)) ∙ bit_other marks at i (λ q. o (Memᴰ.head q))

-- is a place among some?
mem? : (i : ℕ) (ats : List ℕ) → Dec (Memᴰ i ats)
mem? i [] = no Memᴰ.not-nil
mem? i (at ∷ ats) = go (ℕ_discrete i at) (mem? i ats)
  where
    go : Dec (i ≡ at) → Dec (Memᴰ i ats) → Dec (Memᴰ i (at ∷ ats))
    go (yes e) d = yes (Memᴰ.head e)
    go (no n) (yes m) = yes (Memᴰ.tail m)
    go (no n) (no o) = no (λ m. ⊎_elim n o (Memᴰ.cases_cons m))

-- from cleared marks exactly the places are set
pub holds_all : (n : ℕ) (ats : List ℕ) → InWords n ats → Holds (marked_all (replicate n 0) ats) ats
holds_all n ats h = record {
  set = all_in (replicate n 0) ats (rw length-replicate h);
  only = λ i e. elim (mem? i ats) [
    | yes m ↦ m
    | no o ↦ absurd (omega (arith, e, all_out (replicate n 0) ats i o, zeros_bit n i))
  ];
}

-- ---- the bits tell the words

-- two lists of as many words with the same bits are equal
pub same_bits : (a b : List ℕ) → Words a → Words b → length a ≡ length b → ((i : ℕ) → bit_at a i ≡ bit_at b i) → a ≡ b
same_bits a b v w e h =
    ext_get_or 0 a b e
    (λ k l. same_digits (get_or a k 0) (get_or b k 0) 64 (v k) (w k)
    (λ j m. sym (bit_word a k j m) ∙ h (64 * k + j) ∙ bit_word b k j m))

-- where both hold the same places each bit is the same
holds_bit : (a b ats : List ℕ) → Holds a ats → Holds b ats → (i : ℕ) → bit_at a i ≡ bit_at b i
holds_bit a b ats h g i =
    ⊎_elim
    (λ (e : bit_at a i ≡ 0).
    ⊎_elim (λ f. e ∙ sym f) (λ f. absurd (omega (arith, h.set i (g.only i f)))) (bit_either b i))
    (λ (e : bit_at a i ≡ 1). e ∙ sym (g.set i (h.only i e)))
    (bit_either a i)

-- so two lists of as many words that hold the same places are equal
pub same_places : (a b ats : List ℕ) → Words a → Words b → length a ≡ length b → Holds a ats → Holds b ats → a ≡ b
same_places a b ats v w e h g = same_bits a b v w e (holds_bit a b ats h g)
