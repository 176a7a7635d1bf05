-- What is noted is seen, and outside its three words nothing changes.
use mathlib.Core.List.{List, [], ◌∷◌}
use mathlib.Core.Option.{none, some}
use mathlib.Core.Path.{◌≡◌}
use Prim.Native.Nat.{ℕ, ◌+◌, ◌-◌, ◌≤◌, ◌<◌}
use native.Mathlib.Omega.{arith}
use borrow.Author.Tests.{ne_eqb, eq-eqb}
use lib.ListN.{length, get_or}
use lib.Seq.{length-sets}
use Rattle.answer.specs.declared.Depths.{Depths}
use Rattle.words.specs.Seen.{seen_at, note_at}
use Rattle.words.proofs.Runs.{run_below, run_above, run_there}

abbrev words_of : Depths → List ℕ
words_of d = (d.operands + 1) ∷ d.iterators ∷ d.handlers ∷ []

pub length_note : (words : List ℕ) (at : ℕ) (d : Depths) → length (note_at words at d) ≡ length words
unfolding note_at
length_note words at d = length-sets words at (words_of d)

-- ---- elsewhere

pub kept_before : (words : List ℕ) (at : ℕ) (d : Depths) (i : ℕ) → i < at
    → get_or (note_at words at d) i 0 ≡ get_or words i 0
unfolding note_at
kept_before words at d i h = run_below (words_of d) words at i h

pub kept_behind : (words : List ℕ) (at : ℕ) (d : Depths) (i : ℕ) → at + 3 ≤ i
    → get_or (note_at words at d) i 0 ≡ get_or words i 0
unfolding note_at
kept_behind words at d i h = run_above (words_of d) words at i h

same_words : (words others : List ℕ) (at : ℕ) → get_or words at 0 ≡ get_or others at 0
    → get_or words (at + 1) 0 ≡ get_or others (at + 1) 0
    → get_or words (at + 2) 0 ≡ get_or others (at + 2) 0 → seen_at words at ≡ seen_at others at
unfolding seen_at
same_words words others at a b c = rw (a, b, c)

pub seen_before : (words : List ℕ) (at : ℕ) (d : Depths) (i : ℕ) → i + 3 ≤ at
    → seen_at (note_at words at d) i ≡ seen_at words i
seen_before words at d i h =
    same_words (note_at words at d) words i (kept_before words at d i (omega arith))
    (kept_before words at d (i + 1) (omega arith)) (kept_before words at d (i + 2) (omega arith))

pub seen_behind : (words : List ℕ) (at : ℕ) (d : Depths) (i : ℕ) → at + 3 ≤ i
    → seen_at (note_at words at d) i ≡ seen_at words i
seen_behind words at d i h =
    same_words (note_at words at d) words i (kept_behind words at d i (omega arith))
    (kept_behind words at d (i + 1) (omega arith)) (kept_behind words at d (i + 2) (omega arith))

-- ---- there

module _ (words : List ℕ) (at : ℕ) (d : Depths) (room : at + 3 ≤ length words) where
  word_of : (k : ℕ) → k < 3 → get_or (note_at words at d) (at + k) 0 ≡ get_or (words_of d) k 0
  unfolding note_at
  word_of k h = run_there (words_of d) words at k h room

  first_word : get_or (note_at words at d) at 0 ≡ d.operands + 1
  first_word = let same : at + 0 ≡ at = omega arith in rw same at (word_of 0 (omega arith))

  pub seen_noted : seen_at (note_at words at d) at ≡ some d
  unfolding seen_at
  seen_noted =
      rw (
        first_word,
        word_of 1 (omega arith),
        word_of 2 (omega arith),
        ne_eqb (d.operands + 1) 0 (λ e. omega arith),
        less d.operands,
      )
    where
      less : (n : ℕ) → n + 1 - 1 ≡ n
      less n = omega arith

-- where the first word is 0, nothing was seen
pub none_seen : (words : List ℕ) (at : ℕ) → get_or words at 0 ≡ 0 → seen_at words at ≡ none
unfolding seen_at
none_seen words at e = rw (eq-eqb (get_or words at 0) 0 e)
