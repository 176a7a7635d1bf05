-- `indices::records::check_property` meets its contract: a name that is fine leaves the answer to the next.
use mathlib.Core.List.{[], ◌∷◌}
use Rattle.indices.proofs.Laws.{goes_on, stops}
use Rattle.indices.proofs.records.check_property.Goals as goal

pub returns-in_err-check_name : goal.returns-in_err-check_name
returns-in_err-check_name c = stops _ (_ ∷ _ ∷ []) (_ ∷ []) _ _ c.in_err-check_name.ensures c.from_residual.ensures

pub returns-in_err-check_name-2 : goal.returns-in_err-check_name-2
returns-in_err-check_name-2 c =
    goes_on _ (_ ∷ _ ∷ []) (_ ∷ []) _ c.in_ok-check_name.ensures
    (stops _ (_ ∷ []) (_ ∷ []) _ _ c.in_err-check_name-2.ensures c.from_residual-in_err-check_name-2.ensures)

pub returns : goal.returns
returns c =
    goes_on _ (_ ∷ _ ∷ []) (_ ∷ []) _ c.in_ok-check_name.ensures
    (goes_on _ (_ ∷ []) (_ ∷ []) _ c.in_ok-check_name-2.ensures c.check_name-3.ensures)
