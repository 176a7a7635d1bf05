-- What an answer of the code tells of the rule: a denial is the rule's, and edges are all that the rule gives.
use mathlib.Core.Bool.{cond}
use mathlib.Core.List.{map}
use mathlib.Core.Option.{none, some}
use mathlib.Core.Path.{◌≡◌}
use Prim.Native.Nat.{ℕ}
use Rattle.answer.specs.declared.Refusal.{Refusal}
use Rattle.answer.specs.declared.Depths.{Depths}
use Rattle.rules.specs.Edges.{falls, targets, after, jumped}
use Rattle.machine.specs.Walk as machine
use Rattle.demand.specs.Chunk.{rule}
use Rattle.rules.specs.Script.{Script, tag_of}
use Rattle.demand.specs.Span.{Span}
use Rattle.answer.proofs.Apart.{zero≢one}
use Rattle.demand.proofs.Says.{Says, says, no_rights, no_operands, no_iterator, no_handler, no_next, goes}
use Rattle.ruling.specs.declared.Edges.{Edges}
use Rattle.std.specs.Prelude.{Ok, Err}
use Rattle.ruling.specs.Ruling.{answers, edges_of, ruled}

module _ (S : Script) (span : Span) (p : ℕ) (d : Depths) where
  -- a denial is the rule's
  pub denied : {answer : Refusal} → ruled S span p d ≡ Err answer → rule S span p d ≡ machine.denies answer
  unfolding ruled answers
  denied {answer} e = go (rule S span p d) e
    where
      go : (o : machine.Ruling Refusal) → answers o (edges_of S p d) ≡ Err answer → o ≡ machine.denies answer
      go (machine.denies a) q = let same : a ≡ answer = cc in rw same
      go (machine.gives post fall jumps) q = absurd (zero≢one (cc))

  module _ {edges : Edges} (e : ruled S span p d ≡ Ok edges) where
    -- edges that are given are those of the instruction
    pub given_edges : edges ≡ edges_of S p d
    unfolding ruled answers
    given_edges = go (rule S span p d) e
      where
        go : (o : machine.Ruling Refusal) → answers o (edges_of S p d) ≡ Ok edges → edges ≡ edges_of S p d
        go (machine.denies a) q = absurd (zero≢one (cc))
        go (machine.gives post fall jumps) q = cc

    -- the rule has not denied
    not_denied : {o : machine.Ruling Refusal} {a : Refusal} {A : Type 0} → answers o (edges_of S p d) ≡ Ok edges → o ≡ machine.denies a → A
    unfolding answers
    not_denied q n = let both = rw n at q in absurd (zero≢one (cc))

    -- and the rule gives the operands after it, what falls through, and a jump to each target
    pub given_rule : rule S span p d
        ≡ machine.gives (after S p d).operands (cond (falls (tag_of S p)) (some (after S p d)) none)
        (map (λ (t : ℕ). record { place = t; depths = jumped S p d }) (targets S p))
    unfolding ruled
    given_rule = go (says S span p d)
      where
        go : Says S span p d (rule S span p d) → rule S span p d
            ≡ machine.gives (after S p d).operands (cond (falls (tag_of S p)) (some (after S p d)) none)
            (map (λ (t : ℕ). record { place = t; depths = jumped S p d }) (targets S p))
        go (no_rights l q) = not_denied e q
        go (no_operands r l q) = not_denied e q
        go (no_iterator r o l q) = not_denied e q
        go (no_handler r o l q) = not_denied e q
        go (no_next able l h q) = not_denied e q
        go (goes able l q) = q
