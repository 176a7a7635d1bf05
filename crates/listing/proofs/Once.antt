-- One outcome for each input: two answers that tell the same numbers are the same answer.
use mathlib.Core.Bool.{cond}
use mathlib.Core.Path.{◌≡◌, refl, sym, ap, ◌∙◌}
use lib.Dec.{eqb}
use Rattle.std.specs.Prelude.{Result, Ok, Err}
use Rattle.listing.specs.Listing.{ListedTold, item_told}
use Rattle.listing.specs.declared.Item.{Item}
use Rattle.listing.specs.declared.Ending.{Ending}
use Rattle.listing.specs.declared.Ending.TheVariants.{End, NoWidth}

back : ListedTold → Result Item Ending
back t =
    cond (eqb t.number 0) (Ok (record { at = t.at; tag = t.tag; width = t.width; next = t.next }))
    (Err (cond (eqb t.number 1) End (NoWidth t.at)))

same : (l : Result Item Ending) → back (item_told l) ≡ l
unfolding item_told back
same (Ok i) = refl
same (Err End) = refl
same (Err (NoWidth at)) = refl

pub one_listed : (a b : Result Item Ending) → item_told a ≡ item_told b → a ≡ b
one_listed a b e = sym (same a) ∙ ap back e ∙ same b
