-- `words::seen::note` meets its contract: three stores, in words that keep their length.
use mathlib.Core.Path.{refl}
use native.Mathlib.Numerals.{unary_clauses}
use Rattle.words.specs.Seen.{note_at}
use Rattle.words.proofs.seen.note.Goals as goal

pub returns : goal.returns
unfolding note_at
returns c = simp unary_clauses refl
