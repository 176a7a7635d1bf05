-- `indices::fields::check_fields` meets its contract: the table's entry says where the indices stand, and the first of
-- them that is bad is the answer.
use mathlib.Core.Path.{◌∙◌}
use Rattle.code.specs.Width.{width_of}
use Rattle.code.proofs.Widths.{width_there}
use Rattle.indices.specs.Checks.{checked_by}
use Rattle.indices.proofs.Unpacked.{none, first_within, first_known, second_within, second_known}
use Rattle.indices.proofs.Unpacked.{first_bad, no_second, a_second}
use Rattle.indices.proofs.fields.check_fields.Goals as goal

pub bounds-code-at : goal.bounds-code-at
bounds-code-at c = (width_there width_of _ _ c.requires).byte

pub returns-then-fields-eq0 : goal.returns-then-fields-eq0
unfolding checked_by
returns-then-fields-eq0 c = none _ _ _ c.fields_of-fields.ensures _ c.if-fields-eq0.true

pub check_field-requires : goal.check_field-requires
check_field-requires c =
    let byte = (c.type_inv.code c.args.at).fits in
    record {
      within = first_within _ _ _ c.fields_of-fields.ensures c.requires byte c.if-fields-eq0.false;
      pool = first_known _ _ _ c.fields_of-fields.ensures c.requires byte c.if-fields-eq0.false;
    }

pub returns-in_err-check_field : goal.returns-in_err-check_field
returns-in_err-check_field c =
    first_bad _ _ _ c.fields_of-fields.ensures _ c.if-fields-eq0.false _ _
    c.in_err-check_field.ensures c.from_residual.ensures

pub returns-then-fields-eq0-2 : goal.returns-then-fields-eq0-2
unfolding checked_by
returns-then-fields-eq0-2 c =
    no_second _ _ _ c.fields_of-fields.ensures _ c.if-fields-eq0.false _ c.in_ok-check_field.ensures
    c.if-fields-eq0-2.true

pub check_field-requires-2 : goal.check_field-requires-2
check_field-requires-2 c =
    let byte = (c.type_inv.code c.args.at).fits in
    record {
      within = second_within _ _ _ c.fields_of-fields.ensures c.requires byte c.if-fields-eq0.false
          c.if-fields-eq0-2.false;
      pool = second_known _ _ _ c.fields_of-fields.ensures c.requires byte c.if-fields-eq0.false
          c.if-fields-eq0-2.false;
    }

pub returns : goal.returns
returns c =
    c.check_field-2.ensures
    ∙ a_second _ _ _ c.fields_of-fields.ensures _ c.if-fields-eq0.false _ c.in_ok-check_field.ensures
    c.if-fields-eq0-2.false
