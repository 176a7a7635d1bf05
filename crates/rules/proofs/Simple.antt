-- What a simple word tells of its instruction: it has no count and asks for no rights, and its flow is 0.
use mathlib.Core.Bool.{true}
use mathlib.Core.List.{List}
use mathlib.Core.Path.{◌≡◌, refl, subst}
use Prim.Native.Nat.{ℕ, ◌+◌, ◌*◌, ◌/◌, ◌%◌, ◌<◌}
use native.Mathlib.Omega.{arith}
use borrow.Author.Tests.{eqb-false, ltb-true}
use Rattle.code.specs.Layout.{tag_at}
use Rattle.code.specs.Tags.{byte, CHAIN}
use Rattle.code.specs.Width.{width_at}
use Rattle.rules.specs.Acts.{Acts}
use Rattle.rules.specs.Asks.{asking, Asks}
use Rattle.rules.specs.Rights.{required, lacking}
use Rattle.rules.specs.Shapes.{simple, Flow, Shape}
use Rattle.rules.proofs.Amounts.{word_acts}
use Rattle.rules.proofs.CountPlaces.{count_none}

-- nothing stands above the width
small : {word : ℕ} → simple word ≡ true → word < 65536
unfolding simple
small {word} e = ltb-true word 65536 e

module _ {tag word : ℕ} (shape : Shape tag word) (is : simple word ≡ true) where
  pub simple_flow : Flow tag 0
  simple_flow = subst (λ (flow : ℕ). Flow tag flow) (omega (arith, small is)) shape.flow

  simple_rights : Asks tag 0
  simple_rights = subst (λ (asked : ℕ). Asks tag asked) (omega (arith, small is)) shape.rights

  no_chain : tag ≡ byte CHAIN → ⊥
  no_chain = eqb-false tag (byte CHAIN) simple_rights.by_chain

module _ (code chains : List ℕ) (at : ℕ) {word : ℕ} (shape : Shape (tag_at code at) word) (is : simple word ≡ true) where
  required_nothing : (names steps : List ℕ) → 0 ≡ required code names chains steps at
  unfolding asking
  required_nothing names steps = (simple_rights shape is).needed code names chains steps at refl

  pub simple_lacks : (names steps : List ℕ) (rights : ℕ) → 0 ≡ lacking (required code names chains steps at) rights
  unfolding lacking
  simple_lacks names steps rights = rw (← required_nothing names steps) (omega arith)

  pub simple_acts : 0 < width_at code at
      → Acts code chains at (record { needs = word % 4 + word / 4 % 4 * 0; pops = word / 16 % 4 + word / 64 % 4 * 0; pushes = word / 256 % 16 })
  simple_acts wide =
      word_acts code chains at (no_chain shape is) word shape 0
      (count_none (record { wide = wide; told = shape.place }) (omega (arith, small is)))
