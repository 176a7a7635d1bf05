-- One instruction of the first pass, and all of them. Document 01, "Order of the tests": "over the code, width then
-- indices of each instruction".
use Rattle.std.specs.Prelude.{cond, List, ◌≡◌, ℕ, ◌+◌, eqb, length, Option, Some, None, Result, Ok, Err}
use Rattle.std.proofs.Math.Option.{none}
use Rattle.answer.specs.Answer.{unless, told}
use Rattle.answer.specs.declared.Refusal.{Refusal}
use Rattle.code.specs.Width.{width_at}
use Rattle.indices.specs.Indices.{Tables}
use Rattle.indices.specs.declared.Sizes.{Sizes}
use Rattle.listing.specs.Starts.{starts}
use Rattle.marks.specs.Marks.{marked, marked_all}
use Rattle.before.specs.Before.{Test, indices_test, width_test}
use Rattle.before.specs.Calls.{Outcome}

-- what one instruction comes to: it is passed, and this is the offset after it; the code has ended; or a refusal
abbrev pub Turn : Type 0
Turn = Result (Option ℕ) Refusal

module _ (sizes : Sizes) (records : Tables) (code : List ℕ) where
  -- what the instruction at an offset comes to: the offset after it where its indices are fine; where there is none,
  -- the code's end or the width that lacks
  unfoldable pub turn_at : ℕ → Turn
  turn_at at =
      cond (eqb (width_at code at) 0) (unless Err (width_test code at) (Ok None))
      (unless Err (indices_test sizes records code at) (Ok (Some (at + width_at code at))))

-- an instruction that is passed is marked, and nothing else is
unfoldable pub marks_turned : List ℕ → ℕ → Turn → List ℕ
marks_turned marks at (Ok (Some after)) = marked marks at
marks_turned marks at (Ok None) = marks
marks_turned marks at (Err answer) = marks

-- what a call at an offset comes to: this turn, and what marks hold with it
pub record Turned (turn : Turn) (at : ℕ) (before : List ℕ) (r : Turn) (after : List ℕ) : Type 0 where
  pub turns : r ≡ turn
  pub marks : after ≡ marks_turned before at turn

-- what a call for all of them comes to: it tells this test's answer, and where nothing is refused, each is marked
pub record MarkedAll (code : List ℕ) (test : Test) (before : List ℕ) (r : Outcome) (after : List ℕ) : Type 0 where
  pub answer : told r ≡ test
  pub long : length after ≡ length before
  pub marks : told r ≡ none → after ≡ marked_all before (starts code)
