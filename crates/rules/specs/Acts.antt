-- The three numbers of the code's struct are the effect of the instruction at a place.
use Rattle.std.specs.Prelude.{List, ◌≡◌, ℕ}
use Rattle.rules.specs.declared.Effect.{Effect}
use Rattle.rules.specs.Effects.{needs, pops, pushes}

pub record Acts (code chains : List ℕ) (p : ℕ) (e : Effect) : Type 0 where
  pub needed : e.needs ≡ needs code chains p
  pub popped : e.pops ≡ pops code chains p
  pub pushed : e.pushes ≡ pushes code chains p
