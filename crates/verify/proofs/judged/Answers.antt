-- `verify::judged` meets its contract: it has ended before the chunks, or all of them are judged.
use native.Mathlib.Omega.{arith}
use Rattle.std.proofs.Common.{rules}
use Rattle.opening.proofs.Passed.{tells}
use Rattle.verify.proofs.Between.{stands_first, ended, asked, all_fit, all_judged}
use Rattle.verify.proofs.judged.Goals as goal

pub returns-in_err-counted : goal.returns-in_err-counted
returns-in_err-counted c = ended _ _ _ (stands_first _ _ _ c.in_err-counted.ensures) (search rules)

pub invariant_of-checked : goal.invariant_of-checked
invariant_of-checked c =
    let a = asked _ _ _ c.requires (stands_first _ _ _ c.in_ok-counted.ensures) in
    record { ready = a.ready; marked = tells a.marked }

pub judge_spans-judgement-requires : goal.judge_spans-judgement-requires
judge_spans-judgement-requires c =
    let a = asked _ _ _ c.requires (stands_first _ _ _ c.in_ok-counted.ensures) in
    record {
      records_value = a.records_zero;
      work_value = a.work_zero;
      declared_len_bound = a.few_chunks;
      declared_in_bounds = omega (arith, a.room);
      first_le_max_chunks = omega arith;
    }

pub advance-requires : goal.advance-requires
advance-requires c =
    all_fit _ _ _ c.requires (stands_first _ _ _ c.in_ok-counted.ensures) c.judge_spans-judgement.ensures

pub returns : goal.returns
returns c =
    all_judged _ _ _ c.requires (stands_first _ _ _ c.in_ok-counted.ensures) c.judge_spans-judgement.ensures
    c.advance.ensures
