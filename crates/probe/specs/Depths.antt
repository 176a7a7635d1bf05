-- What the exports about depths tell: where the depths are such as the rules ask for, the numbers of the rules; and
-- nothing where not.
use Rattle.std.specs.Prelude.{Bool, ◌&&◌, cond, ◌≡◌, ℕ, ◌+◌, ◌-◌, ◌^◌, leb, ltb}
use Rattle.answer.specs.declared.Depths.{Depths}
use Rattle.rules.specs.Edges.{falls, plain, after_of, jumped_of}
use Rattle.rules.specs.Needs.{iterators_needed, handlers_needed}
use Rattle.probe.specs.declared.depths.DepthsTold.{DepthsTold}
use Rattle.probe.specs.declared.depths.NeededTold.{NeededTold}

-- a tag finds the iterators and handlers that it needs, and one more of each fits a word of 32 bits
unfoldable pub holds : (tag iterators handlers : ℕ) → Bool
holds tag iterators handlers =
    leb (iterators_needed tag) iterators && (leb (handlers_needed tag) handlers
    && (ltb (iterators + 1) (2 ^ 32) && ltb (handlers + 1) (2 ^ 32)))

-- so many can be popped, and what is left with those that are pushed fits a word
unfoldable pub fits : (pops pushes operands : ℕ) → Bool
fits pops pushes operands = leb pops operands && ltb (operands - pops + pushes) (2 ^ 32)

abbrev pub depths : (operands iterators handlers : ℕ) → Depths
depths operands iterators handlers = record { operands = operands; iterators = iterators; handlers = handlers }

abbrev pub no_depths : DepthsTold
no_depths = record { number = 1; operands = 0; iterators = 0; handlers = 0 }

-- number 0 and these depths where a test passes, number 1 and zeros where not
pub record ToldIf (passes : Bool) (d : Depths) (r : DepthsTold) : Type 0 where
  pub number : r.number ≡ cond passes 0 1
  pub operands : r.operands ≡ cond passes d.operands 0
  pub iterators : r.iterators ≡ cond passes d.iterators 0
  pub handlers : r.handlers ≡ cond passes d.handlers 0

abbrev pub AfterSame : (tag pops pushes operands iterators handlers : ℕ) → DepthsTold → Type 0
AfterSame tag pops pushes operands iterators handlers r =
    ToldIf (holds tag iterators handlers && fits pops pushes operands)
    (after_of tag pops pushes (depths operands iterators handlers)) r

abbrev pub JumpedSame : (tag operands iterators handlers operandsAfter iteratorsAfter handlersAfter : ℕ)
    → DepthsTold → Type 0
JumpedSame tag operands iterators handlers operandsAfter iteratorsAfter handlersAfter r =
    ToldIf (holds tag iterators handlers)
    (jumped_of tag (depths operands iterators handlers) (depths operandsAfter iteratorsAfter handlersAfter)) r

pub record NeededSame (tag : ℕ) (r : NeededTold) : Type 0 where
  pub iterators : r.iterators ≡ iterators_needed tag
  pub handlers : r.handlers ≡ handlers_needed tag
  pub falls : r.falls ≡ cond (falls tag) 1 0
  pub plain : r.plain ≡ cond (plain tag) 1 0
