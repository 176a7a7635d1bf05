-- `pools::tables::check_entries` meets its contract: the entries before the one at hand are good.
use Rattle.std.specs.Prelude.{Bool, ◌≡◌, ℕ, ◌<◌}
use Rattle.pools.specs.Answers.{table_number}
use Rattle.pools.specs.Told.{bad_table}
use Rattle.pools.proofs.First.{Passed}
use Rattle.pools.proofs.tables.check_entries.Given as goal

abbrev pub invariant-loop-entry : goal.invariant-loop-entry
invariant-loop-entry g l =
    (bad : ℕ → Bool) → ((i : ℕ) (r : Bool) → i < l.count → goal.F-post g l.is_bad i r → r ≡ bad i)
    → Passed (bad_table (table_number l.table)) bad l.count l.entry
