-- What a test tells, in document 01's numbers, and which of several tests tells first. Document 01, "What comes back":
-- kind, p and q, "unused are 0"; "A kind is given exactly when its test, in its turn, is the first to fail".
use Rattle.std.specs.Prelude.{Bool, cond, List, [], ◌∷◌, ℕ, ◌+◌, eqb}

pub record Told : Type 0 where
  pub kind : ℕ
  pub p : ℕ
  pub q : ℕ

-- nothing is refused: kind 0
abbrev pub fine : Told
fine = record { kind = 0; p = 0; q = 0 }

-- TooLarge: kind 1, with the limit's number
abbrev pub over_limit : ℕ → Told
over_limit number = record { kind = 1; p = number; q = 0 }

-- BadTable: kind 2, with the table and the entry
abbrev pub bad_table : ℕ → ℕ → Told
bad_table table entry = record { kind = 2; p = table; q = entry }

-- what several tests tell in their order: the first that refuses, and fine where none does
unfoldable pub first_told : List Told → Told
first_told [] = fine
first_told (test ∷ tests) = cond (eqb test.kind 0) (first_told tests) test

-- the same of tests that are numbered upward, each true where something is bad, with a refusal for each number
module _ (refusal : ℕ → Told) where
  unfoldable pub first_from : ℕ → List Bool → Told
  first_from i [] = fine
  first_from i (bad ∷ more) = cond bad (refusal i) (first_from (i + 1) more)
