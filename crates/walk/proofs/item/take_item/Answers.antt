-- `walk::item::take_item` meets its contract: past the end, at a place seen before, or at a new one.
use mathlib.Core.Path.{sym, ap, ◌∙◌}
use native.Mathlib.Omega.{arith}
use Rattle.words.specs.Seen.{seen_told}
use Rattle.walk.specs.declared.Hand.{Hand}
use Rattle.walk.proofs.Taking.{stopped, off_turn}
use Rattle.walk.proofs.Turns.{rises, keys_room, keys_counted, notes_room, waits_room, taken_fits, seen_so}
use Rattle.walk.proofs.item.take_item.Goals as goal

pub returns-then-room-hand : goal.returns-then-room-hand
returns-then-room-hand c =
    stopped _ _ c.args.hand _ _ (off_turn _ _ _ _ _ c.requires c.if-room-hand.true)

pub seen_at-requires-clause-keys_in_bounds : goal.seen_at-requires-clause-keys_in_bounds
seen_at-requires-clause-keys_in_bounds c = keys_room _ _ _ _ _ c.requires

pub seen_at-requires-clause-keys_in_bounds_2 : goal.seen_at-requires-clause-keys_in_bounds_2
seen_at-requires-clause-keys_in_bounds_2 c = notes_room _ _ _ _ _ c.requires

pub enter-requires-clause-unseen : goal.enter-requires-clause-unseen
unfolding seen_told
enter-requires-clause-unseen c = record {
  below_end = omega (arith, c.if-room-hand.false);
  unseen = sym (c.in-None.ensures ∙ seen_so _ _ _ _ _ c.requires);
}

pub drop_item-requires : goal.drop_item-requires
drop_item-requires c = taken_fits _ _ _ _ _ c.requires (omega arith)

pub slice_bounds-keys-end : goal.slice_bounds-keys-end
slice_bounds-keys-end c = keys_room _ _ _ _ _ c.requires

pub slice_bounds-keys-end-in-Some : goal.slice_bounds-keys-end-in-Some
slice_bounds-keys-end-in-Some c = keys_counted _ _ _ _ _ c.requires

pub take_back-requires-clause-rising : goal.take_back-requires-clause-rising
take_back-requires-clause-rising c = rises _ _ _ _ _ c.requires

pub take_back-requires-clause-waiting_in_bounds : goal.take_back-requires-clause-waiting_in_bounds
take_back-requires-clause-waiting_in_bounds c =
    omega (arith, ap (λ (i : Hand). i.waiting) c.drop_item.ensures, waits_room _ _ _ _ _ c.requires)
