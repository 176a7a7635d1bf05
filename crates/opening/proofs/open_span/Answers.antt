-- `opening::open_span` meets its contract. In each answer `good` tells that 7 and 8 are passed, `e` that the room is.
use Rattle.demand.specs.Span.{Span}
use Rattle.rules.specs.FromLists.{script_of}
use Rattle.rules.specs.Script.{Script}
use Rattle.std.proofs.lemmas.Result.{err_from_is_err_and}
use Rattle.opening.specs.Ready.{span_of}
use Rattle.opening.proofs.Passed.{tells}
use Rattle.opening.proofs.Tests.{tells_refusal, tells_none, span_passed}
use Rattle.opening.proofs.Ways.{refused_by_span, refused_for_room, stored_fit, spare_fits, zeros_behind, ready}
use Rattle.opening.proofs.open_span.Goals as goal

pub returns-in_err-check_span : goal.returns-in_err-check_span
returns-in_err-check_span c = λ declared.
    let p = err_from_is_err_and c.from_residual.result c.from_residual.ensures.1 in
    rw (p.1, p.2) (refused_by_span _ _ _ _ (tells_refusal c.check_span.ensures (c.in_err-check_span.was))
    c.requires.records_value c.requires.work_value)

pub list_chunk-listed-requires-clause-in_code : goal.list_chunk-listed-requires-clause-in_code
list_chunk-listed-requires-clause-in_code c =
    span_passed _ _ _ (tells_none c.check_span.ensures (c.in_ok-check_span.was))

pub returns-in-Err : goal.returns-in-Err
returns-in-Err c = λ declared.
    let good = tells_none c.check_span.ensures (c.in_ok-check_span.was) in
    refused_for_room _ _ c.list_chunk-listed.ensures _ good (tells_refusal c.check_room.ensures c.in-Err.is)
    c.clear_first.ensures c.requires.work_value

pub lay_keys-keys-requires : goal.lay_keys-keys-requires
lay_keys-keys-requires c =
    let s = c.args in
    let S : Script = script_of s.script.now in
    let span : Span = span_of s.entry s.end 0 in
    let e = tells_none c.check_room.ensures c.in_default.is in
    record {
      count_in_bounds = stored_fit S span c.list_chunk-listed.ensures s.work.now e;
      count_in_bounds_2 = spare_fits S span c.list_chunk-listed.ensures s.work.now e;
      records_value = zeros_behind S span c.list_chunk-listed.ensures s.work.now e;
      work_value = c.requires.work_value;
    }

pub returns : goal.returns
returns c = λ declared.
    let good = tells_none c.check_span.ensures (c.in_ok-check_span.was) in
    let e = tells_none c.check_room.ensures c.in_default.is in
    ready _ _ c.list_chunk-listed.ensures c.args.work.now e _ (span_passed _ _ _ good) c.lay_keys-keys.ensures

pub check_span-requires : goal.check_span-requires
check_span-requires c = tells c.requires.marked

pub list_chunk-listed-requires-clause-listable : goal.list_chunk-listed-requires-clause-listable
list_chunk-listed-requires-clause-listable c = c.requires.listable
