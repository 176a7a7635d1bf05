-- What the exports about one instruction tell: where the instruction has its width and the entries that it names are
-- there, the numbers of the rules; and nothing where not.
use Rattle.std.specs.Prelude.{Bool, ◌&&◌, cond, List, ◌≡◌, ℕ, ◌+◌, ltb, length, get_or}
use Rattle.code.specs.Layout.{tag_at}
use Rattle.code.specs.Answers.{Found, found, without}
use Rattle.guards.specs.Guards.{is_there}
use Rattle.rules.specs.Edges.{falls, targets_of}
use Rattle.rules.specs.Effects as effects
use Rattle.rules.specs.Rights.{required}
use Rattle.probe.specs.declared.instruction.EffectTold.{EffectTold}

-- number 0 and the value where a test passes, number 1 where not
unfoldable pub told_if : Bool → ℕ → Found
told_if passes value = cond passes (found value) (without 1)

module _ (code : List ℕ) (at : ℕ) (names chains steps switches cases ranges : List ℕ) where
  abbrev there : Bool
  there = is_there code at names chains steps switches cases ranges

  abbrev targets : List ℕ
  targets = targets_of code switches cases ranges at

  abbrev pub required_told : Found
  required_told = told_if there (required code names chains steps at)

  abbrev pub targets_told : Found
  targets_told = told_if there (length targets)

  abbrev pub edges_told : Found
  edges_told = told_if there (length targets + cond (falls (tag_at code at)) 1 0)

  -- the target of this number, where there is one
  abbrev pub target_told : ℕ → Found
  target_told k = told_if (there && ltb k (length targets)) (get_or targets k 0)

  pub record EffectSame (r : EffectTold) : Type 0 where
    pub number : r.number ≡ cond there 0 1
    pub needs : r.needs ≡ cond there (effects.needs code chains at) 0
    pub pops : r.pops ≡ cond there (effects.pops code chains at) 0
    pub pushes : r.pushes ≡ cond there (effects.pushes code chains at) 0
