-- Items put on top are the items that wait, and the words above them do not change.
use mathlib.Core.List.{List, [], ◌∷◌}
use mathlib.Core.Path.{◌≡◌, refl, ap, ◌∙◌}
use Prim.Native.Nat.{ℕ, zero, suc, ◌+◌, ◌-◌, ◌*◌, ◌≤◌, ◌<◌}
use native.Mathlib.Nat.{add-zero}
use native.Mathlib.Numerals.{unary_clauses}
use native.Mathlib.Omega.{arith}
use native.Mathlib.Decide.{dec_lt}
use lib.ListN.{length, get_or}
use lib.Seq.{length-sets}
use Rattle.answer.specs.Depths.{Item, zeros}
use Rattle.machine.specs.Walk.{push}
use Rattle.words.specs.Stack.{item_at, items, words_of, put, put_all, cleared, Clear}
use Rattle.words.proofs.Runs.{run_below, run_above, run_there}

-- ---- one item

pub length_put : (words : List ℕ) (i : ℕ) (it : Item) → length (put words i it) ≡ length words
unfolding put
length_put words i it = length-sets words (i * 4) (words_of it)

pub kept_below : (words : List ℕ) (i : ℕ) (it : Item) (j : ℕ) → j < i * 4 → get_or (put words i it) j 0 ≡ get_or words j 0
unfolding put
kept_below words i it j h = run_below (words_of it) words (i * 4) j h

pub kept_above : (words : List ℕ) (i : ℕ) (it : Item) (j : ℕ) → i * 4 + 4 ≤ j
    → get_or (put words i it) j 0 ≡ get_or words j 0
unfolding put
kept_above words i it j h = run_above (words_of it) words (i * 4) j h

module _ (words : List ℕ) (i : ℕ) (it : Item) (room : i * 4 + 4 ≤ length words) where
  -- each of its words
  word_of : (k : ℕ) → k < 4 → get_or (put words i it) (i * 4 + k) 0 ≡ get_or (words_of it) k 0
  unfolding put
  word_of k h = run_there (words_of it) words (i * 4) k h room

  first_word : get_or (put words i it) (i * 4) 0 ≡ it.place
  first_word = let same : i * 4 + 0 ≡ i * 4 = omega arith in rw same at (word_of 0 (omega arith))

  pub put_there : item_at (put words i it) i ≡ it
  unfolding item_at
  put_there = rw (first_word, word_of 1 (omega arith), word_of 2 (omega arith), word_of 3 (omega arith))

-- an item below another is not touched by it
pub item_kept : (words : List ℕ) (i : ℕ) (it : Item) (k : ℕ) → k < i → item_at (put words i it) k ≡ item_at words k
unfolding item_at
item_kept words i it k h =
    rw (
      kept_below words i it (k * 4) (omega arith),
      kept_below words i it (k * 4 + 1) (omega arith),
      kept_below words i it (k * 4 + 2) (omega arith),
      kept_below words i it (k * 4 + 3) (omega arith),
    )

pub items_kept : (words : List ℕ) (i : ℕ) (it : Item) (n : ℕ) → n ≤ i → items (put words i it) n ≡ items words n
unfolding items
items_kept words i it zero h = refl
items_kept words i it (suc n) h = rw (item_kept words i it n (omega arith), items_kept words i it n (omega arith))

pub items_none : (words : List ℕ) → items words 0 ≡ []
unfolding items
items_none words = refl

pub items_on : (words : List ℕ) (n : ℕ) → items words (n + 1) ≡ item_at words n ∷ items words n
unfolding items
items_on words n = simp unary_clauses refl

pub items_put : (words : List ℕ) (n : ℕ) (it : Item) → n * 4 + 4 ≤ length words
    → items (put words n it) (n + 1) ≡ it ∷ items words n
items_put words n it room =
    items_on (put words n it) n ∙ rw (put_there words n it room, items_kept words n it n (omega arith))

pub length_items : (words : List ℕ) (n : ℕ) → length (items words n) ≡ n
unfolding items
length_items words zero = refl
length_items words (suc n) = ap suc (length_items words n)

-- ---- several items

pub length_put_all : (its : List Item) (words : List ℕ) (n : ℕ) → length (put_all words n its) ≡ length words
unfolding put_all
length_put_all [] words n = refl
length_put_all (it ∷ its) words n = length_put_all its (put words n it) (n + 1) ∙ length_put words n it

pub items_put_all : (its : List Item) (words : List ℕ) (n : ℕ) → (n + length its) * 4 ≤ length words
    → items (put_all words n its) (n + length its) ≡ push its (items words n)
unfolding put_all push
items_put_all [] words n room = ap (λ (k : ℕ). items words k) (add-zero n)
items_put_all (it ∷ its) words n room =
    ap (λ (k : ℕ). items (put_all (put words n it) (n + 1) its) k) (shift n (length its))
    ∙ items_put_all its (put words n it) (n + 1) (omega (arith, length_put words n it))
    ∙ ap (λ (w : List Item). push its w) (items_put words n it (omega arith))
  where
    shift : (n m : ℕ) → n + suc m ≡ n + 1 + m
    shift n m = omega arith

-- ---- nothing above

pub clear_put_all : (its : List Item) (words : List ℕ) (n : ℕ) → Clear words n
    → Clear (put_all words n its) (n + length its)
unfolding put_all
clear_put_all [] words n c = record { clear = λ i h. c.clear i (omega arith) }
clear_put_all (it ∷ its) words n c =
    let more : Clear (put words n it) (n + 1) =
    record { clear = λ i h. kept_above words n it i (omega arith) ∙ c.clear i (omega arith) } in
    let rest = clear_put_all its (put words n it) (n + 1) more in
    record { clear = λ i h. rest.clear i (omega arith) }

-- the top item cleared
pub clear_top : (words : List ℕ) (n : ℕ) → n * 4 + 4 ≤ length words → Clear words (n + 1) → Clear (cleared words n) n
unfolding put
clear_top words n room c = record { clear = λ i h. go i h (dec_lt i (n * 4 + 4)) }
  where
    zero_words : (k : ℕ) → get_or (words_of (record { place = 0; depths = zeros })) k 0 ≡ 0
    zero_words zero = refl
    zero_words (suc zero) = refl
    zero_words (suc (suc zero)) = refl
    zero_words (suc (suc (suc zero))) = refl
    zero_words (suc (suc (suc (suc k)))) = refl

    go : (i : ℕ) → n * 4 ≤ i → Dec (i < n * 4 + 4) → get_or (cleared words n) i 0 ≡ 0
    go i h (yes l) =
        let same : n * 4 + (i - n * 4) ≡ i = omega arith in
        rw same at (word_of words n (record { place = 0; depths = zeros }) room (i - n * 4) (omega arith) ∙ zero_words (i - n * 4))
    go i h (no l) = kept_above words n (record { place = 0; depths = zeros }) i (omega arith) ∙ c.clear i (omega arith)
