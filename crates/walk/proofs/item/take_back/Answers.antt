-- `walk::item::take_back` meets its contract.
use Rattle.walk.proofs.Parts.{taken_back}
use Rattle.walk.proofs.item.take_back.Goals as goal

pub returns : goal.returns
returns c =
    taken_back _ c.args.hand _ _ _ c.if-hand-eq0.false c.requires.waiting_in_bounds c.requires.clear
    c.item_at-top.ensures c.put.ensures c.find.ensures
