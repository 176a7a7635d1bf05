-- `before::pass_instruction` meets its contract: a way out for each answer of the two checks.
use Rattle.std.proofs.Common.{rules}
use Rattle.answer.specs.Answer.{told}
use Rattle.before.proofs.Pass.{passed, bad_index, code_ends, no_width}
use Rattle.before.proofs.pass_instruction.Goals as goal

pub returns-in_err-check_indices-in-Ok : goal.returns-in_err-check_indices-in-Ok
unfolding told
returns-in_err-check_indices-in-Ok c =
    bad_index _ _ _ _ c.in-Ok.ensures c.in_err-check_indices-in-Ok.ensures (search rules)

pub returns-in_ok-check_indices-in-Ok : goal.returns-in_ok-check_indices-in-Ok
unfolding told
returns-in_ok-check_indices-in-Ok c =
    passed _ _ _ _ c.in-Ok.ensures c.in_ok-check_indices-in-Ok.ensures c.set_start.ensures

pub returns-in-Err-NoByte : goal.returns-in-Err-NoByte
returns-in-Err-NoByte c = code_ends _ _ _ _ c.in-Err-NoByte.ensures c.in-Err-NoByte.field-0-is

pub returns-in-Err-UnknownTag : goal.returns-in-Err-UnknownTag
returns-in-Err-UnknownTag c = no_width _ _ _ _ c.in-Err-UnknownTag.ensures (search rules)
