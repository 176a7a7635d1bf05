-- `indices::records::check_each` meets its contract: what is left to find is what there was to find from the first.
use Rattle.std.specs.Prelude.{◌≡◌, ℕ, ◌+◌, ◌<◌, Result}
use mathlib.Core.List.{List}
use Rattle.indices.specs.Indices.{Ref, first_bad_ref}
use Rattle.indices.specs.Checks.{checked_told}
use Rattle.indices.specs.declared.BadIndex.{BadIndex}
use Rattle.indices.specs.declared.Pool.{Pool}
use Rattle.indices.proofs.InTurn.{Turn}
use Rattle.indices.proofs.records.check_each.Given as goal

abbrev pub invariant-loop-entry : goal.invariant-loop-entry
invariant-loop-entry g l =
    (size : ℕ → ℕ) (named : ℕ → List Ref)
    → ((i : ℕ) (r : Result Unit (BadIndex Pool)) → i < l.first + l.count → goal.F-post g l.check i r
    → checked_told r ≡ first_bad_ref size (named i))
    → Turn size named (λ rs. rs) l.first l.count l.entry-end l.entry
