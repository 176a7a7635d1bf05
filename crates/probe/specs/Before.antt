-- What everything before the chunks comes to, in document 01's numbers: the verdict, and what marks hold.
use Rattle.std.specs.Prelude.{List, ◌≡◌, ℕ, length}
use Rattle.answer.specs.declared.verdict.Verdict.{Verdict}
use Rattle.before.specs.Calls.{before_chunks, verdict_of, marks_after}
use Rattle.before.specs.Input.{Input}

pub record SameBefore (I : Input) (heights : ℕ) (before : List ℕ) (r : Verdict) (after : List ℕ) : Type 0 where
  pub verdict : r ≡ verdict_of (before_chunks I (length before) heights)
  pub marks : after ≡ marks_after I heights before
