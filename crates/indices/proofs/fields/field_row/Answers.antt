-- `indices::fields::field_row` meets its contract: twenty rows, and nothing past them.
use Rattle.code.proofs.Packed.{no_arm}
use Rattle.indices.specs.Fields.{index_rows}
use Rattle.indices.proofs.fields.field_row.Goals as goal

pub returns-in_default : goal.returns-in_default
returns-in_default c = no_arm index_rows c.args.row c.in_default.in_default-own.rest
