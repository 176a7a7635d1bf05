-- What a tag's flow does to the depths.
use mathlib.Core.Bool.{cond}
use mathlib.Core.Path.{◌≡◌, refl}
use Prim.Native.Nat.{ℕ, ◌+◌, ◌-◌}
use lib.Dec.{eqb}
use Rattle.answer.specs.declared.Depths.{Depths}
use Rattle.rules.specs.declared.shapes.Flow.{Flow}
use Rattle.rules.specs.declared.shapes.Flow.TheVariants.{Next, IterInit, PopHandler, IterDrop, IterNext, PushHandler}
use Rattle.rules.specs.declared.shapes.Flow.TheVariants.{Branch, Jump, Switch, Leave}
use Rattle.rules.specs.Edges.{after_of, jumped_of}
use Rattle.rules.specs.Shapes.{digit, Flows}

-- the depths just after it
module _ (pops pushes : ℕ) (d : Depths) where
  abbrev after_digit : ℕ → Depths
  after_digit n = record {
    operands = d.operands - pops + pushes;
    iterators = cond (eqb n 1) (d.iterators + 1) (cond (eqb n 3) (d.iterators - 1) d.iterators);
    handlers = cond (eqb n 5) (d.handlers + 1) (cond (eqb n 2) (d.handlers - 1) d.handlers);
  }

  pub after_flow : {tag : ℕ} {flow : Flow} → Flows tag flow → (known : Flow) → flow ≡ known
      → after_digit (digit known) ≡ after_of tag pops pushes d
  unfolding after_of
  after_flow {tag} {flow} F known e =
      let it : after_digit (digit flow) ≡ after_of tag pops pushes d =
      rw (F.iterates, F.drops, F.arms, F.disarms) refl in
      rw e at it

  pub after_rest : {tag : ℕ} (flow : Flow) → Flows tag flow
      → (flow ≡ IterInit → ⊥) → (flow ≡ IterDrop → ⊥) → (flow ≡ PushHandler → ⊥) → (flow ≡ PopHandler → ⊥)
      → record { operands = d.operands - pops + pushes; iterators = d.iterators; handlers = d.handlers }
      ≡ after_of tag pops pushes d
  after_rest Next F a b c e = after_flow F Next refl
  after_rest IterInit F a b c e = absurd (a refl)
  after_rest PopHandler F a b c e = absurd (e refl)
  after_rest IterDrop F a b c e = absurd (b refl)
  after_rest IterNext F a b c e = after_flow F IterNext refl
  after_rest PushHandler F a b c e = absurd (c refl)
  after_rest Branch F a b c e = after_flow F Branch refl
  after_rest Jump F a b c e = after_flow F Jump refl
  after_rest Switch F a b c e = after_flow F Switch refl
  after_rest Leave F a b c e = after_flow F Leave refl

-- and at its targets
module _ (before after : Depths) where
  abbrev jumped_digit : ℕ → Depths
  jumped_digit n =
      cond (eqb n 4) (record { operands = before.operands; iterators = before.iterators - 1; handlers = before.handlers })
      (cond (eqb n 5) (record { operands = before.operands; iterators = before.iterators; handlers = before.handlers + 1 })
      after)

  pub jumped_flow : {tag : ℕ} {flow : Flow} → Flows tag flow → (known : Flow) → flow ≡ known
      → jumped_digit (digit known) ≡ jumped_of tag before after
  unfolding jumped_of
  jumped_flow {tag} {flow} F known e =
      let it : jumped_digit (digit flow) ≡ jumped_of tag before after = rw (F.advances, F.arms) refl in
      rw e at it

  pub jumped_rest : {tag : ℕ} (flow : Flow) → Flows tag flow → (flow ≡ IterNext → ⊥) → (flow ≡ PushHandler → ⊥)
      → after ≡ jumped_of tag before after
  jumped_rest Next F a b = jumped_flow F Next refl
  jumped_rest IterInit F a b = jumped_flow F IterInit refl
  jumped_rest PopHandler F a b = jumped_flow F PopHandler refl
  jumped_rest IterDrop F a b = jumped_flow F IterDrop refl
  jumped_rest IterNext F a b = absurd (a refl)
  jumped_rest PushHandler F a b = absurd (b refl)
  jumped_rest Branch F a b = jumped_flow F Branch refl
  jumped_rest Jump F a b = jumped_flow F Jump refl
  jumped_rest Switch F a b = jumped_flow F Switch refl
  jumped_rest Leave F a b = jumped_flow F Leave refl
