-- `opening::lay_keys` meets its contract.
use Rattle.opening.proofs.Ways.{keys_laid}
use Rattle.opening.proofs.lay_keys.Goals as goal

pub returns : goal.returns
returns c =
    keys_laid _ _ _ _ c.requires.count_in_bounds c.requires.count_in_bounds_2 c.requires.records_value
    c.requires.work_value c.put_in_order.ensures
