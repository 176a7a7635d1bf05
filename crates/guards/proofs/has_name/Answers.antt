-- `guards::has_name` meets its contract: the index of a tag that asks for a name lies inside its instruction.
use mathlib.Core.Path.{◌∙◌, sym}
use Prim.Native.Nat.{◌+◌, ◌≤◌}
use native.Mathlib.Omega.{arith}
use lib.ListN.{length}
use Rattle.rules.proofs.Operands.{tag_there}
use Rattle.guards.proofs.Found.{no_name_asked, name_asked, name_index}
use Rattle.guards.proofs.has_name.Goals as goal

-- the name that is asked for stands inside the instruction
named : (c : goal.Else-not-looks_at_name) → c.args.at + 3 ≤ length c.args.code.now
named c = name_index _ _ c.requires (sym c.looks_at_name.ensures ∙ c.if-not-looks_at_name.false)

pub bounds-code-at : goal.bounds-code-at
bounds-code-at c = tag_there _ _ c.requires

pub returns-then-not-looks_at_name : goal.returns-then-not-looks_at_name
returns-then-not-looks_at_name c =
    rw c.if-not-looks_at_name.true (no_name_asked _ _ _ (sym c.looks_at_name.ensures ∙ c.if-not-looks_at_name.true))

pub overflow_add-at : goal.overflow_add-at
overflow_add-at c = omega (arith, named c)

pub read-requires : goal.read-requires
read-requires c = omega (arith, named c)

pub returns-else-not-looks_at_name : goal.returns-else-not-looks_at_name
returns-else-not-looks_at_name c =
    name_asked _ _ _ (sym c.looks_at_name.ensures ∙ c.if-not-looks_at_name.false) _ c.read.ensures
