-- What a script that passed everything before the chunks says of its instructions, and what its marks hold.
use mathlib.Core.List.{List}
use mathlib.Core.Path.{sym, ◌∙◌}
use Prim.Native.Nat.{ℕ}
use borrow.Author.Tests.{eqb-true, eq-eqb}
use Rattle.code.specs.Width.{width_of}
use Rattle.code.proofs.Among.{among_member, member_among}
use Rattle.listing.specs.Starts.{Start, starts}
use Rattle.listing.proofs.Marked.{told_by_marks}
use Rattle.listing.proofs.Starts.{start_wide}
use Rattle.marks.specs.Places.{bit_at}
use Rattle.opening.specs.Ready.{Ready, Marked, Tells}
use Rattle.rules.specs.Script.{Script}
use Rattle.rules.specs.There.{Stands}

-- all that an instruction names is there
pub stands : {S : Script} → Ready S → {p : ℕ} → Start width_of S.code p → Stands S p
stands {S} R s = record {
  wide = start_wide width_of S.code s;
  name = R.name_there _ s;
  chain = R.chain_there _ s;
  switch = R.listable.switch_there _ s;
}

-- marks that hold the starts and nothing else tell of each place whether it is one, and no others do
module _ {marks code : List ℕ} where
  pub tells : Marked marks code → Tells marks code
  tells m = record { bit = told_by_marks m }

  pub marked : Tells marks code → Marked marks code
  marked t = record {
    set = λ i m. eqb-true (bit_at marks i) 1 (t.bit i ∙ member_among i (starts code) m);
    only = λ i e. among_member i (starts code) (sym (t.bit i) ∙ eq-eqb (bit_at marks i) 1 e);
  }
