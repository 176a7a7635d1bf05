-- `indices::fields::fields_of` meets its contract: a tag's part of its row is the entry of the table, which
-- passes the test.
use mathlib.Core.Path.{ap, ◌∙◌}
use Prim.Native.Nat.{ℕ}
use borrow.Author.Rules.{rules}
use Rattle.indices.specs.Fields.{unpacked}
use Rattle.indices.proofs.Table.{rule, row_entry}
use Rattle.indices.proofs.fields.fields_of.Goals as goal

pub returns : goal.returns
returns c =
    rw c.field_row.ensures
    (ap (λ (n : ℕ). unpacked n) (row_entry c.args.tag (search rules)) ∙ rule c.args.tag (search rules))
