-- What the word that the crate keeps for a tag says of it, digit by digit. The digits of base 16, the lowest first:
-- what an instruction needs and what it pops, each so many and 4 more for each of its count n; what it pushes; its
-- width; where n stands; its flow; and in four more its rights.
use Rattle.std.specs.Prelude.{Bool, ◌&&◌, cond, List, [], ◌∷◌, ◌≡◌, ℕ, ◌+◌, ◌/◌, ◌%◌, ◌^◌, ◌<◌, eqb, leb, ltb}
use Rattle.code.specs.Layout.{Field, target, count8, count16, slot, index, layout, among}
use Rattle.code.specs.Tags.{byte, bytes, ITER_INIT, ITER_DROP, POP_HANDLER, SWITCH, iter_nexts, push_handlers}
use Rattle.code.specs.Width.{width_of}
use Rattle.rules.specs.Asks.{Asks}
use Rattle.rules.specs.declared.shapes.Flow as code
use Rattle.rules.specs.declared.shapes.Flow.TheVariants.{Next, IterInit, PopHandler, IterDrop, IterNext, PushHandler}
use Rattle.rules.specs.declared.shapes.Flow.TheVariants.{Branch, Jump, Switch, Leave}
use Rattle.rules.specs.Edges.{jumping, falls, plain}
use Rattle.rules.specs.Effects.{effect}
use Rattle.rules.specs.Needs.{iterators_needed, handlers_needed}

-- where the first count among fields stands, the first of which has this offset from the tag: the count's own offset,
-- and 8 more where it has two bytes; 0 where there is no count
unfoldable pub place_from : List Field → ℕ → ℕ
place_from [] at = 0
place_from (count8 ∷ fields) at = at
place_from (count16 ∷ fields) at = at + 8
place_from (target ∷ fields) at = place_from fields (at + 4)
place_from (slot ∷ fields) at = place_from fields (at + 2)
place_from (index pool ∷ fields) at = place_from fields (at + 2)

-- the flows by their digits: 0 none of the following, 1 ITER_INIT, 2 POP_HANDLER, 3 ITER_DROP, 4 ITER_NEXT*,
-- 5 PUSH_HANDLER*, 6 the branches, 7 JUMP, 8 SWITCH, 9 RETURN and THROW
pub record Flow (tag flow : ℕ) : Type 0 where
  pub is_plain : ltb flow 4 ≡ plain tag
  pub falls_on : ltb flow 7 ≡ falls tag
  pub jumps : among tag (bytes jumping) ≡ (leb 4 flow && leb flow 7)
  pub switches : eqb tag (byte SWITCH) ≡ eqb flow 8
  pub iterates : eqb tag (byte ITER_INIT) ≡ eqb flow 1
  pub drops : eqb tag (byte ITER_DROP) ≡ eqb flow 3
  pub advances : among tag (bytes iter_nexts) ≡ eqb flow 4
  pub arms : among tag (bytes push_handlers) ≡ eqb flow 5
  pub disarms : eqb tag (byte POP_HANDLER) ≡ eqb flow 2
  pub iterators : iterators_needed tag ≡ cond (eqb flow 3) 1 (cond (eqb flow 4) 1 0)
  pub handlers : handlers_needed tag ≡ cond (eqb flow 2) 1 0
  pub low : flow < 10

-- the digit of each flow
abbrev pub digit : code.Flow → ℕ
digit Next = 0
digit IterInit = 1
digit PopHandler = 2
digit IterDrop = 3
digit IterNext = 4
digit PushHandler = 5
digit Branch = 6
digit Jump = 7
digit Switch = 8
digit Leave = 9

-- a tag's flow, as the code's enum
abbrev pub Flows : ℕ → code.Flow → Type 0
Flows tag flow = Flow tag (digit flow)

-- a word with nothing above the width: no count, the flow 0 and no rights
unfoldable pub simple : ℕ → Bool
simple word = ltb word 65536

pub record Shape (tag word : ℕ) : Type 0 where
  pub needs_fixed : word % 4 ≡ (effect tag).needs.fixed
  pub needs_per_n : word / 4 % 4 ≡ (effect tag).needs.per_n
  pub pops_fixed : word / 16 % 4 ≡ (effect tag).pops.fixed
  pub pops_per_n : word / 64 % 4 ≡ (effect tag).pops.per_n
  pub pushes : word / 256 % 16 ≡ (effect tag).pushes
  pub width : word / 4096 % 16 ≡ width_of tag
  pub place : word / 65536 % 16 ≡ place_from (layout tag) 1
  pub flow : Flow tag (word / 1048576 % 16)
  pub rights : Asks tag (word / 16777216 % 65536)
  pub no_more : word < 2 ^ 40
