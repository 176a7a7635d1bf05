-- `indices::records::check_chain_indices` meets its contract: a part that is fine leaves the answer to the next.
use native.Mathlib.Omega.{arith}
use Rattle.std.proofs.Common.{rules}
use Rattle.pools.specs.Pools.{chain_at, step_at}
use Rattle.indices.specs.Indices.{chain_refs, step_refs}
use Rattle.indices.proofs.InTurn.{each_found}
use Rattle.indices.proofs.Laws.{goes_on, stops}
use Rattle.indices.proofs.records.check_chain_indices.Goals as goal

pub returns-in_err-check_root : goal.returns-in_err-check_root
unfolding chain_at chain_refs
returns-in_err-check_root c = stops _ _ _ _ _ c.in_err-check_root.ensures c.from_residual.ensures

pub check_each-requires : goal.check_each-requires
unfolding chain_at
check_each-requires c = λ i h. omega (arith, c.requires.steps_within)

pub returns-in_err-check_each : goal.returns-in_err-check_each
unfolding chain_at chain_refs
returns-in_err-check_each c =
    goes_on _ _ _ _ c.in_ok-check_root.ensures
    (stops _ _ _ _ _
    (each_found (step_at c.args.steps.now) step_refs _ _ _ (c.in_err-check_each.ensures _ _ (λ i r h p. search rules)))
    c.from_residual-in_err-check_each.ensures)

pub returns : goal.returns
unfolding chain_at chain_refs
returns c =
    goes_on _ _ _ _ c.in_ok-check_root.ensures
    (goes_on _ _ _ _
    (each_found (step_at c.args.steps.now) step_refs _ _ _ (c.in_ok-check_each.ensures _ _ (λ i r h p. search rules)))
    c.check_tail.ensures)
