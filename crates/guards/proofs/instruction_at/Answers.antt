-- `guards::instruction_at` meets its contract: an instruction that passes the tests stands whole.
use mathlib.Core.Path.{◌∙◌, sym}
use Rattle.guards.proofs.Ready.{stands}
use Rattle.rules.specs.FromLists.{script_of}
use Rattle.guards.proofs.instruction_at.Goals as goal

pub at-requires : goal.at-requires
at-requires c = (stands {S = script_of c.args.script.now} (sym c.is_there.ensures ∙ c.if-is_there.true)).wide

pub returns-then-is_there : goal.returns-then-is_there
returns-then-is_there c =
    let here = c.at.ensures in
    let passed = sym c.is_there.ensures ∙ c.if-is_there.true in
    let whole = stands {S = script_of c.args.script.now} passed in
    (passed, here.script, here.at, rw (here.script, here.at) whole)
