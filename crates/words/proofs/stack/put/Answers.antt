-- `words::stack::put` meets its contract: four stores, in words that keep their length.
use mathlib.Core.Path.{refl}
use native.Mathlib.Numerals.{unary_clauses}
use Rattle.words.specs.Stack.{put}
use Rattle.words.proofs.stack.put.Goals as goal

pub returns : goal.returns
unfolding put
returns c = simp unary_clauses refl
