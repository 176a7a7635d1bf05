-- `pools::tables::check_tables` meets its contract: each test that passes leaves it to the next.
use Rattle.std.proofs.Common.{rules}
use Rattle.pools.specs.Answers.{table_number}
use Rattle.pools.specs.Tables.{first_bad_table}
use Rattle.pools.proofs.First.{after, handed_on, last}
use Rattle.pools.proofs.TableLaws.{tables_tell}
use Rattle.pools.proofs.tables.check_tables.Goals as goal

pub returns-in_err-check_whole : goal.returns-in_err-check_whole
unfolding first_bad_table table_number
returns-in_err-check_whole c =
    handed_on _ tables_tell _ _ _ _ c.in_err-check_whole.ensures c.from_residual.ensures

pub returns-in_err-check_whole-2 : goal.returns-in_err-check_whole-2
unfolding first_bad_table table_number
returns-in_err-check_whole-2 c =
    after _ tables_tell _ _ _ c.in_ok-check_whole.ensures (
    handed_on _ tables_tell _ _ _ _ c.in_err-check_whole-2.ensures c.from_residual-in_err-check_whole-2.ensures)

pub returns-in_err-check_whole-3 : goal.returns-in_err-check_whole-3
unfolding first_bad_table table_number
returns-in_err-check_whole-3 c =
    after _ tables_tell _ _ _ c.in_ok-check_whole.ensures (
    after _ tables_tell _ _ _ c.in_ok-check_whole-2.ensures (
    handed_on _ tables_tell _ _ _ _ c.in_err-check_whole-3.ensures c.from_residual-in_err-check_whole-3.ensures))

pub returns-in_err-check_whole-4 : goal.returns-in_err-check_whole-4
unfolding first_bad_table table_number
returns-in_err-check_whole-4 c =
    after _ tables_tell _ _ _ c.in_ok-check_whole.ensures (
    after _ tables_tell _ _ _ c.in_ok-check_whole-2.ensures (
    after _ tables_tell _ _ _ c.in_ok-check_whole-3.ensures (
    handed_on _ tables_tell _ _ _ _ c.in_err-check_whole-4.ensures c.from_residual-in_err-check_whole-4.ensures)))

pub returns-in_err-check_entries : goal.returns-in_err-check_entries
unfolding first_bad_table table_number
returns-in_err-check_entries c =
    after _ tables_tell _ _ _ c.in_ok-check_whole.ensures (
    after _ tables_tell _ _ _ c.in_ok-check_whole-2.ensures (
    after _ tables_tell _ _ _ c.in_ok-check_whole-3.ensures (
    after _ tables_tell _ _ _ c.in_ok-check_whole-4.ensures (
    handed_on _ tables_tell _ _ _ _ (c.in_err-check_entries.ensures _ (λ i r h p. search rules))
    c.from_residual-in_err-check_entries.ensures))))

pub returns-in_err-check_entries-2 : goal.returns-in_err-check_entries-2
unfolding first_bad_table table_number
returns-in_err-check_entries-2 c =
    after _ tables_tell _ _ _ c.in_ok-check_whole.ensures (
    after _ tables_tell _ _ _ c.in_ok-check_whole-2.ensures (
    after _ tables_tell _ _ _ c.in_ok-check_whole-3.ensures (
    after _ tables_tell _ _ _ c.in_ok-check_whole-4.ensures (
    after _ tables_tell _ _ _ (c.in_ok-check_entries.ensures _ (λ i r h p. search rules)) (
    handed_on _ tables_tell _ _ _ _ (c.in_err-check_entries-2.ensures _ (λ i r h p. search rules))
    c.from_residual-in_err-check_entries-2.ensures)))))

pub returns : goal.returns
unfolding first_bad_table table_number
returns c =
    after _ tables_tell _ _ _ c.in_ok-check_whole.ensures (
    after _ tables_tell _ _ _ c.in_ok-check_whole-2.ensures (
    after _ tables_tell _ _ _ c.in_ok-check_whole-3.ensures (
    after _ tables_tell _ _ _ c.in_ok-check_whole-4.ensures (
    after _ tables_tell _ _ _ (c.in_ok-check_entries.ensures _ (λ i r h p. search rules)) (
    after _ tables_tell _ _ _ (c.in_ok-check_entries-2.ensures _ (λ i r h p. search rules)) (
    last _ tables_tell _ _ (c.check_entries-3.ensures _ (λ i r h p. search rules))))))))
