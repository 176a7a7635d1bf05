-- `marks::count` meets its contract: the chain sums the ones of each word.
use mathlib.Core.Path.{◌≡◌, ◌∙◌, refl}
use Prim.Native.Nat.{ℕ}
use mathlib.Core.List.{List, [], ◌∷◌}
use native.Mathlib.Omega.{arith}
use lib.Count.{ones}
use Rattle.std.proofs.Common.{rules, tests}
use Rattle.std.specs.List.{sum_by}
use Rattle.std.proofs.lemmas.List.Sums.{sum_by-cons}
use Rattle.std.proofs.lemmas.Iterator.{YieldsList-from_slice, YieldsList-from_map}
use Rattle.std.proofs.lemmas.Iterator.Consumers.{sum_by_from_yields_List, fits_by_from_yields_list}
use Rattle.marks.specs.Marks.{total}
use Rattle.marks.proofs.count.Goals as goal

-- the sum of the words' ones is the total
ones_sum : (words : List ℕ) → sum_by ones words ≡ total words
unfolding total
ones_sum [] = refl
ones_sum (word ∷ words) = sum_by-cons ones word words ∙ omega (arith, ones_sum words)

pub sum-requires-clause-fits : goal.sum-requires-clause-fits
sum-requires-clause-fits c =
    fits_by_from_yields_list ones c.args.marks.now c.map.result _
    (YieldsList-from_map _ ones (YieldsList-from_slice c.args.marks.now cc) c.map.ensures.closure
    (λ x r q k. search (rules, tests)))
    (rw ones_sum c.requires)

pub returns : goal.returns
returns c =
    sum_by_from_yields_List ones c.args.marks.now c.map.result c.sum.result c.sum.ensures.ran
    (YieldsList-from_map _ ones (YieldsList-from_slice c.args.marks.now cc) c.map.ensures.closure
    (λ x r q k. search (rules, tests)))
    ∙ ones_sum c.args.marks.now
