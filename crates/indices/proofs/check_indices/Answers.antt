-- `indices::check_indices` meets its contract: where the instruction's own indices are fine the record that it
-- names is there, and the answer is the record's.
use mathlib.Core.List.{List}
use mathlib.Core.Path.{◌≡◌, refl, sym}
use Rattle.std.specs.Prelude.{Ok}
use Prim.Native.Nat.{ℕ}
use native.Mathlib.Omega.{arith}
use Rattle.code.specs.Width.{width_of}
use Rattle.code.proofs.Widths.{width_there}
use Rattle.pools.specs.Lent.{pools_of}
use Rattle.pools.specs.Told.{fine}
use Rattle.indices.specs.Indices.{Tables, tables_of, size_of, in_code, in_record, refs, first_bad_ref}
use Rattle.indices.specs.Checks.{checked_by, checked_told}
use Rattle.indices.proofs.Laws.{goes_on, stops}
use Rattle.indices.proofs.Named.{chain_read, switch_read, chain_entry, switch_entry}
use Rattle.indices.proofs.Named.{chain_record, switch_record, no_record}
use Rattle.indices.specs.declared.Sizes.{Sizes}
use Rattle.indices.proofs.check_indices.Goals as goal

-- past the own indices, which are fine
module _ (sizes : Sizes) (code : List ℕ) (at : ℕ) (x : Unit)
    (found : checked_told (Ok x) ≡ first_bad_ref (size_of sizes) (in_code code at)) where
  own : first_bad_ref (size_of sizes) (in_code code at) ≡ fine
  unfolding checked_by
  own = sym found

  -- the answer is the record's
  rest : (t : Tables) → first_bad_ref (size_of sizes) (in_record t code at)
      ≡ first_bad_ref (size_of sizes) (refs t code at)
  rest t = goes_on (size_of sizes) (in_record t code at) (in_code code at) x found refl

pub returns-in_err-check_fields : goal.returns-in_err-check_fields
returns-in_err-check_fields c = stops _ _ _ _ _ c.in_err-check_fields.ensures c.from_residual.ensures

pub bounds-code-at : goal.bounds-code-at
bounds-code-at c = (width_there width_of _ _ c.requires.at_nonzero).byte

pub overflow_add-at : goal.overflow_add-at
overflow_add-at c = omega (arith, chain_read c.args.code.now c.args.at c.in-44.is c.requires.at_nonzero)

pub read-chain-requires : goal.read-chain-requires
read-chain-requires c = chain_read c.args.code.now c.args.at c.in-44.is c.requires.at_nonzero

pub check_chain_indices-requires : goal.check_chain_indices-requires
check_chain_indices-requires c =
    let sound = c.requires.sound in
    let fine_own = own _ _ _ _ c.in_ok-check_fields.ensures in
    let there = chain_entry _ c.args.code.now c.args.at fine_own _ sound _ c.read-chain.ensures c.in-44.is in
    record { chain_bound = there; steps_within = sound.chains_within.steps_within _ there }

pub overflow_add-at-in-49 : goal.overflow_add-at-in-49
overflow_add-at-in-49 c = omega (arith, switch_read c.args.code.now c.args.at c.in-49.is c.requires.at_nonzero)

pub read-switch-requires : goal.read-switch-requires
read-switch-requires c = switch_read c.args.code.now c.args.at c.in-49.is c.requires.at_nonzero

pub check_switch_indices-requires : goal.check_switch_indices-requires
check_switch_indices-requires c =
    let sound = c.requires.sound in
    let fine_own = own _ _ _ _ c.in_ok-check_fields.ensures in
    let there = switch_entry _ c.args.code.now c.args.at fine_own _ sound _ c.read-switch.ensures c.in-49.is in
    record { switch_bound = there; cases_within = sound.cases_within _ there }

pub returns-in-44 : goal.returns-in-44
returns-in-44 c =
    let t = tables_of (pools_of c.args.pools.now) in
    let left = rest _ _ _ _ c.in_ok-check_fields.ensures t in
    rw (← left, chain_record _ c.args.code.now c.args.at c.in-44.is, ← c.read-chain.ensures)
    c.check_chain_indices.ensures

pub returns-in-49 : goal.returns-in-49
returns-in-49 c =
    let t = tables_of (pools_of c.args.pools.now) in
    let left = rest _ _ _ _ c.in_ok-check_fields.ensures t in
    rw (← left, switch_record _ c.args.code.now c.args.at c.in-49.is, ← c.read-switch.ensures)
    c.check_switch_indices.ensures

pub returns-in_default : goal.returns-in_default
unfolding checked_by first_bad_ref
returns-in_default c =
    let t = tables_of (pools_of c.args.pools.now) in
    let left = rest _ _ _ _ c.in_ok-check_fields.ensures t in
    let none = c.in_default.in_default-own.rest in
    rw (← left, no_record _ c.args.code.now c.args.at none.0.1 none.1)
