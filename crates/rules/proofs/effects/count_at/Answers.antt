-- `rules::effects::count_at` meets its contract: the place that the tag's word names is where the count stands.
use mathlib.Core.List.{List}
use mathlib.Core.Path.{◌∙◌}
use Prim.Native.Nat.{ℕ, ◌/◌, ◌%◌, ◌<◌}
use native.Mathlib.Omega.{arith}
use Rattle.code.specs.Layout.{tag_at}
use Rattle.code.specs.Width.{width_at}
use Rattle.rules.specs.Shapes.{Shape}
use Rattle.rules.proofs.CountPlaces.{Placed, count_none, count_byte, byte_there, count_word, word_there}
use Rattle.rules.proofs.Operands.{tag_there}
use Rattle.rules.proofs.effects.count_at.Goals as goal

-- what the caller knows of the word
placed : {code : List ℕ} {at word : ℕ} → 0 < width_at code at → Shape (tag_at code at) word
    → Placed code at (word / 65536 % 16)
placed wide shape = record { wide = wide; told = shape.place }

pub returns-then-place-eq0 : goal.returns-then-place-eq0
returns-then-place-eq0 c = count_none (placed c.requires.wide c.requires.shape) c.if-place-eq0.true

pub overflow_add-result : goal.overflow_add-result
overflow_add-result c = omega (arith, tag_there c.args.code.now c.args.at c.requires.wide)

pub bounds-code-at : goal.bounds-code-at
bounds-code-at c = byte_there (placed c.requires.wide c.requires.shape) c.if-place-eq0.false c.if-place-lt8.true

pub returns-then-place-lt8 : goal.returns-then-place-lt8
returns-then-place-lt8 c =
    count_byte (placed c.requires.wide c.requires.shape) c.if-place-eq0.false c.if-place-lt8.true

pub overflow_add-at : goal.overflow_add-at
overflow_add-at c =
    omega (arith, word_there (placed c.requires.wide c.requires.shape) c.if-place-eq0.false c.if-place-lt8.false)

pub read-requires : goal.read-requires
read-requires c = word_there (placed c.requires.wide c.requires.shape) c.if-place-eq0.false c.if-place-lt8.false

pub returns : goal.returns
returns c =
    c.read.ensures
    ∙ count_word (placed c.requires.wide c.requires.shape) c.if-place-eq0.false c.if-place-lt8.false
