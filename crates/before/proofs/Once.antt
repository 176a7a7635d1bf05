-- One outcome for each input: two outcomes that tell the same are the same.
use mathlib.Core.Option.{none, some}
use mathlib.Core.Path.{◌≡◌, refl, sym, ap, ◌∙◌}
use Rattle.answer.specs.Answer.{told}
use Rattle.std.specs.Prelude.{Ok, Err}
use Rattle.before.specs.Before.{Test}
use Rattle.before.specs.Calls.{Outcome}

back : Test → Outcome
back none = Ok tt
back (some answer) = Err answer

same : (o : Outcome) → back (told o) ≡ o
unfolding told back
same (Ok passed) = refl
same (Err answer) = refl

pub one_outcome : (a b : Outcome) → told a ≡ told b → a ≡ b
one_outcome a b e = sym (same a) ∙ ap back e ∙ same b
