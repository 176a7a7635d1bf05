-- The laws of the counts: how many places below a bound are set, and how many in all, both by the words and by the list
-- of the places that the marks hold.
use mathlib.Core.Path.{◌≡◌, refl, sym, ◌∙◌}
use mathlib.Core.List.{List, [], ◌∷◌, Memᴰ}
use mathlib.Core.Logic.{◌≢◌, ⊎_elim, if_pos, if_neg}
use Prim.Native.Nat.{ℕ, zero, suc, ◌+◌, ◌-◌, ◌*◌, ◌%◌, ◌^◌, ◌≤◌, ◌<◌}
use native.Mathlib.Decide.{dec_lt}
use native.Mathlib.Nat.{add-zero, add-suc, mul-suc, mod-one, mod-eq_of_lt, le_trans}
use native.Mathlib.Omega.{arith}
use lib.Count.{ones, ones-le}
use lib.ListN.{length, get_or, take}
use lib.Seq.{take-length}
use Rattle.marks.specs.Marks.{total}
use Rattle.marks.specs.Places.{bit_at, ones_below, places_below, Holds, RisesFrom, empty, next, Words}
use Rattle.marks.proofs.Word.{ones_zero, ones_more}
use Rattle.marks.proofs.Laws.{bit_either, bit_word, bit_within}

-- ---- by words

-- within a word: the ones before the word, and those of its low digits
in_word : (marks : List ℕ) (k r : ℕ) → r ≤ 64
    → ones_below marks (64 * k + r) ≡ ones_below marks (64 * k) + ones (get_or marks k 0 % 2 ^ r)
unfolding ones_below
in_word marks k zero h = rw (add-zero, mod-one) (omega (arith, ones_zero))
in_word marks k (suc r) h =
    rw add-suc
    (omega (arith, in_word marks k r (omega arith), bit_word marks k r (omega arith), ones_more (get_or marks k 0) r))

-- one word more is its ones more
total_take : (l : List ℕ) (k : ℕ) → total (take (suc k) l) ≡ total (take k l) + ones (get_or l k 0)
unfolding total
total_take [] zero = omega (arith, ones_zero)
total_take [] (suc k) = omega (arith, ones_zero)
total_take (x ∷ l) zero = omega arith
total_take (x ∷ l) (suc k) = omega (arith, total_take l k)

-- before a word: the ones of the words before it
by_words : (marks : List ℕ) → Words marks → (k : ℕ) → ones_below marks (64 * k) ≡ total (take k marks)
unfolding ones_below total
by_words marks w zero = refl
by_words marks w (suc k) =
    rw mul-suc
    (in_word marks k 64 (omega arith)
    ∙ rw (mod-eq_of_lt (w k)) (omega (arith, by_words marks w k, total_take marks k)))

-- the ones below a place are those of the words before its word, and those below it in that word
pub ones_below_lem : (marks : List ℕ) → Words marks → (k r : ℕ) → r ≤ 64
    → ones_below marks (64 * k + r) ≡ total (take k marks) + ones (get_or marks k 0 % 2 ^ r)
ones_below_lem marks w k r h = omega (arith, in_word marks k r h, by_words marks w k)

-- the ones in all are those below the end
pub total_below : (marks : List ℕ) → Words marks → total marks ≡ ones_below marks (64 * length marks)
total_below marks w = rw (by_words marks w (length marks), take-length)

-- no word has more than 64
pub total_most : (marks : List ℕ) → Words marks → total marks ≤ 64 * length marks
unfolding total
total_most [] w = omega arith
total_most (word ∷ words) w = omega (arith, ones-le 64 word (w 0), total_most words (λ i. w (suc i)))

-- ---- by places

-- a place below n counts one, another none
below_more : (at n : ℕ) (ats : List ℕ) → at < n → places_below (at ∷ ats) n ≡ places_below ats n + 1
unfolding places_below
below_more at n ats h = rw (if_pos (dec_lt at n) h) (omega arith)

below_skip : (at n : ℕ) (ats : List ℕ) → n ≤ at → places_below (at ∷ ats) n ≡ places_below ats n
unfolding places_below
below_skip at n ats h = rw (if_neg (dec_lt at n) (omega arith))

-- ---- places that rise

-- places that rise from a number rise from any lower one
pub rising_lower : {lower from : ℕ} {ats : List ℕ} → lower ≤ from → RisesFrom from ats → RisesFrom lower ats
rising_lower h empty = empty
rising_lower h (next l r) = next (le_trans h l) r

-- each of them is at least `from`
pub rising_least : {from i : ℕ} {ats : List ℕ} → RisesFrom from ats → Memᴰ i ats → from ≤ i
rising_least {i = i} (empty {from = from}) x4 = elim x4 [ ]
rising_least (next l r) (Memᴰ.head e) = omega arith
rising_least (next l r) (Memᴰ.tail m) = omega (arith, rising_least r m)

-- below n there are at most `n - from` of them
pub rising_length : {from : ℕ} (ats : List ℕ) (n : ℕ) → RisesFrom from ats → ((i : ℕ) → Memᴰ i ats → i < n)
    → length ats ≤ n - from
rising_length [] n empty h = omega arith
rising_length (at ∷ ats) n (next l r) h =
    omega (arith, h at (Memᴰ.head refl), rising_length ats n r (λ i m. h i (Memᴰ.tail m)))

-- and below `from` there is none
below_least : {from : ℕ} (ats : List ℕ) (n : ℕ) → RisesFrom from ats → n ≤ from → places_below ats n ≡ 0
unfolding places_below
below_least [] n empty h = refl
below_least (at ∷ ats) n (next l r) h = below_skip at n ats (omega arith) ∙ below_least ats n r (omega arith)

-- a bound moved past one of the places counts one more
below_in : {from : ℕ} (ats : List ℕ) (n : ℕ) → RisesFrom from ats → Memᴰ n ats
    → places_below ats (suc n) ≡ places_below ats n + 1
below_in {from = from} [] n _ x3 = elim x3 [ ]
below_in (at ∷ ats) n (next l r) (Memᴰ.head e) =
    omega (
      arith,
      below_more at (suc n) ats (omega arith),
      below_skip at n ats (omega arith),
      below_least ats (suc n) r (omega arith),
      below_least ats n r (omega arith),
    )
below_in (at ∷ ats) n (next l r) (Memᴰ.tail m) =
    let above : at < n = rising_least r m in
    omega (arith, below_more at (suc n) ats (omega arith), below_more at n ats above, below_in ats n r m)

-- and past any other number no more
below_out : (ats : List ℕ) (n : ℕ) → (Memᴰ n ats → ⊥) → places_below ats (suc n) ≡ places_below ats n
unfolding places_below
below_out [] n o = refl
below_out (at ∷ ats) n o =
    let other : n ≢ at = λ q. o (Memᴰ.head q) in
    let rest : places_below ats (suc n) ≡ places_below ats n = below_out ats n (λ m. o (Memᴰ.tail m)) in
    elim (dec_lt at n) [
      | yes l ↦ omega (arith, below_more at (suc n) ats (omega arith), below_more at n ats l)
      | no g ↦ omega (arith, below_skip at (suc n) ats (omega arith), below_skip at n ats (omega arith))
    ]

-- below a bound as many places are set as there are among those that the marks hold
pub holds_below : {from : ℕ} (marks ats : List ℕ) → Holds marks ats → RisesFrom from ats → (n : ℕ)
    → ones_below marks n ≡ places_below ats n
unfolding ones_below
holds_below marks ats h r zero = sym (below_least ats 0 r (omega arith))
holds_below marks ats h r (suc n) =
    let before : ones_below marks n ≡ places_below ats n = holds_below marks ats h r n in
    ⊎_elim
    (λ (e : bit_at marks n ≡ 0). omega (arith, below_out ats n (λ m. omega (arith, h.set n m))))
    (λ (e : bit_at marks n ≡ 1). omega (arith, below_in ats n r (h.only n e)))
    (bit_either marks n)

-- where all lie below n, all count
pub below_all : (ats : List ℕ) (n : ℕ) → ((i : ℕ) → Memᴰ i ats → i < n) → places_below ats n ≡ length ats
unfolding places_below
below_all [] n h = refl
below_all (at ∷ ats) n h =
    omega (arith, below_more at n ats (h at (Memᴰ.head refl)), below_all ats n (λ i m. h i (Memᴰ.tail m)))

-- marks that hold places that rise have as many ones as there are places
pub holds_total : {from : ℕ} (marks ats : List ℕ) → Words marks → Holds marks ats → RisesFrom from ats
    → total marks ≡ length ats
holds_total marks ats w h r =
    total_below marks w
    ∙ holds_below marks ats h r (64 * length marks)
    ∙ below_all ats (64 * length marks) (λ i m. omega (arith, bit_within marks i (h.set i m)))
