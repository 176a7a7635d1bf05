-- Every operand that a rule reads lies inside its instruction: a computed test over the tags, and what it tells at each.
use mathlib.Core.Bool.{Bool, true, cond}
use mathlib.Core.List.{List, [], ◌∷◌}
use mathlib.Core.Path.{◌≡◌, refl, sym}
use Prim.Native.Nat.{ℕ, ◌+◌, ◌-◌, ◌≤◌, ◌<◌}
use native.Mathlib.Omega.{arith}
use lib.Dec.{T, eqb, leb, ltb, leb→le}
use lib.ListN.{length, get_or}
use Rattle.code.proofs.Layouts.{tag_byte, sizes}
use Rattle.code.proofs.Widths.{Wide, width_there}
use Rattle.code.specs.Layout.{layout, among, tag_at}
use Rattle.code.specs.Tags.{Tag, byte, bytes, CHAIN, SWITCH}
use Rattle.code.specs.Width.{width_of, width_at}
use Rattle.rules.specs.Asks.{qualifiable}
use Rattle.rules.specs.Edges.{jumping}
use Rattle.rules.specs.Shapes.{place_from}
use Rattle.rules.proofs.Tests.{pass_at}

-- how far a count at a place reaches from the tag
abbrev pub reach : ℕ → ℕ
reach place = cond (eqb place 0) 0 (cond (ltb place 8) (place + 1) (place - 8 + 2))

-- the tags that name an entry of a table by the two bytes after the tag
abbrev pub naming : List Tag
naming = CHAIN ∷ SWITCH ∷ qualifiable

-- the fields are few; count, target and index lie inside the width
tests : ℕ → List Bool
unfolding layout among place_from sizes width_of
tests tag =
    leb (1 + sizes (layout tag)) 8
    ∷ leb (reach (place_from (layout tag) 1)) (width_of tag)
    ∷ leb (cond (among tag (bytes jumping)) 5 0) (width_of tag)
    ∷ leb (cond (among tag (bytes naming)) 3 0) (width_of tag)
    ∷ []

-- what the test tells of the instruction at an offset that has its width
module _ (code : List ℕ) (at : ℕ) (wide : 0 < width_at code at) where
  there : Wide width_of code at (width_at code at)
  there = width_there width_of code at wide

  pub tag_there : at < length code
  tag_there = there.byte

  pub width_here : width_of (tag_at code at) ≡ width_at code at
  width_here = sym there.tag

  pub tag_small : tag_at code at < 256
  tag_small = tag_byte (tag_at code at) (omega (arith, there.tag, there.some))

  passes : (k : ℕ) → T (get_or (tests (tag_at code at)) k true)
  unfolding tests
  passes = pass_at tests tt (tag_at code at) tag_small

  pub few_bytes : 1 + sizes (layout (tag_at code at)) ≤ 8
  unfolding tests
  few_bytes = leb→le _ _ (passes 0)

  -- from the tag as far as something is read, the code goes on
  within : (end : ℕ) → T (leb end (width_of (tag_at code at))) → at + end ≤ length code
  within end t = omega (arith, there.tag, there.within, leb→le end (width_of (tag_at code at)) t)

  pub count_there : at + reach (place_from (layout (tag_at code at)) 1) ≤ length code
  unfolding tests
  count_there = within (reach (place_from (layout (tag_at code at)) 1)) (passes 1)

  pub target_there : among (tag_at code at) (bytes jumping) ≡ true → at + 5 ≤ length code
  unfolding tests
  target_there e = rw e at (within (cond (among (tag_at code at) (bytes jumping)) 5 0) (passes 2))

  pub index_there : among (tag_at code at) (bytes naming) ≡ true → at + 3 ≤ length code
  unfolding tests
  index_there e = rw e at (within (cond (among (tag_at code at) (bytes naming)) 3 0) (passes 3))

  pub chain_there : tag_at code at ≡ byte CHAIN → at + 3 ≤ length code
  unfolding among
  chain_there e = index_there (rw (e, among) refl)

  pub switch_there : tag_at code at ≡ byte SWITCH → at + 3 ≤ length code
  unfolding among
  switch_there e = index_there (rw (e, among) refl)
