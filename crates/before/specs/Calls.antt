-- What the calls of `before` come to, for its contracts and those who call it: the answer, and what marks hold.
-- Document 01, "What comes back": "Kinds 1, 2, and 3 for marks or heights come before any store. [...] all of marks
-- holds the starts' bits after acceptance, zeros after refusal".
use Rattle.std.specs.Prelude.{List, [], ◌∷◌, ◌≡◌, ℕ, length, replicate, Result, Ok, Err}
use Rattle.std.proofs.Math.Option.{none, some}
use Rattle.answer.specs.Answer.{refusal, no_chunk, refused, told}
use Rattle.answer.specs.declared.Refusal.{Refusal}
use Rattle.answer.specs.declared.verdict.Verdict.{Verdict}
use Rattle.before.specs.Before.{Test, first, before_stores, after_stores, marks_of}
use Rattle.before.specs.Input.{Input}

-- what a call for a test answers: it passes, or refuses
abbrev pub Outcome : Type 0
Outcome = Result Unit Refusal

-- untouched where a test before any store refuses
unfoldable pub marks_from : (early late : Test) → (code before : List ℕ) → List ℕ
marks_from none late code before = marks_of code late (length before)
marks_from (some answer) late code before = before

-- what a call comes to: it tells this test's answer, and marks hold these words
pub record Prepared (test : Test) (words : List ℕ) (r : Outcome) (after : List ℕ) : Type 0 where
  pub answer : told r ≡ test
  pub marks : after ≡ words

-- what an outcome after the first store leaves of the marks: all of them, and none where it refuses
unfoldable pub left_by : Outcome → List ℕ → List ℕ
left_by (Ok passed) marks = marks
left_by (Err answer) marks = replicate (length marks) 0

-- what a call comes to that hands this outcome on, and clears the marks where it refuses
pub record Settled (given : Outcome) (before : List ℕ) (r : Outcome) (after : List ℕ) : Type 0 where
  pub same : r ≡ given
  pub marks : after ≡ left_by given before

-- ---- everything before the chunks

unfoldable pub before_chunks : Input → (marks heights : ℕ) → Test
before_chunks I marks heights = first (before_stores I marks heights ∷ after_stores I ∷ [])

abbrev pub marks_after : Input → (heights : ℕ) → (before : List ℕ) → List ℕ
marks_after I heights before =
    marks_from (before_stores I (length before) heights) (after_stores I) I.script.code before

-- what a call for it comes to, where marks held these words before it
abbrev pub ForChunks : Input → (heights : ℕ) → (before : List ℕ) → Outcome → (after : List ℕ) → Type 0
ForChunks I heights before = Prepared (before_chunks I (length before) heights) (marks_after I heights before)

-- an outcome in document 01's numbers: kind 0 with nothing counted yet, or the answer's
unfoldable pub verdict_of : Test → Verdict
verdict_of none = refusal 0 no_chunk 0 0 0
verdict_of (some answer) = refused no_chunk answer
