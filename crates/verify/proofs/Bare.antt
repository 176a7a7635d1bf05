-- Constants, tokens and op-assignments are no matter to a chunk: it is judged the same by a script without them.
use mathlib.Core.List.{List, [], ◌∷◌, ◌++◌}
use mathlib.Core.Path.{◌≡◌, refl, sym, ap, ◌∙◌}
use Prim.Native.Nat.{ℕ, ◌+◌}
use lib.ListN.{set}
use Rattle.answer.specs.declared.Refusal.{Refusal}
use Rattle.code.specs.Layout.{among}
use Rattle.demand.specs.Chunk.{all_targets, rule, judge, machine, open_test, passes, fails, measured, walked, judge_chunk}
use Rattle.demand.specs.Chunk as chunk
use Rattle.demand.specs.Span.{Span, chunk_starts, T, E}
use Rattle.rules.specs.Edges.{degree, next, targets}
use Rattle.machine.specs.Walk.{Machine, walk, log}
use Rattle.rules.specs.Script.{Script}
use Rattle.rules.specs.FromLists.{script}
use Rattle.judging.specs.Judging.{judge_all}
use Rattle.judging.proofs.Chain.{judge_passes, judge_fails}

abbrev pub bare : Script → Script
bare S =
    script S.rights S.pools.names S.pools.chains S.pools.steps S.pools.switches S.pools.cases S.pools.ranges S.code

same_targets : (S : Script) (ps : List ℕ) → all_targets (bare S) ps ≡ all_targets S ps
unfolding all_targets
same_targets S [] = refl
same_targets S (p ∷ ps) = ap (λ (ts : List ℕ). targets S p ++ ts) (same_targets S ps)

same_walked : (S : Script) (span : Span) → walked (bare S) span ≡ walked S span
unfolding walked E degree rule judge next
same_walked S span =
    ap (λ (ts : List ℕ). measured span.declared (walk (with_targets ts) log (1 + E S span) []))
    (same_targets S (chunk_starts S span))
  where
    with_targets : List ℕ → Machine Refusal
    with_targets ts = record {
      entry = span.entry;
      end = span.end;
      start = (machine S span).start;
      next = (machine S span).next;
      named = λ p. among p (span.entry ∷ ts);
      rule = (machine S span).rule;
      judge = (machine S span).judge;
      off = (machine S span).off;
      clash = (machine S span).clash;
    }

same_chunk : (S : Script) (span : Span) (records work : ℕ)
    → judge_chunk (bare S) span records work ≡ judge_chunk S span records work
unfolding judge_chunk open_test T E degree
same_chunk S span records work = rw (same_walked S span) refl

module _ (S : Script) (records work : ℕ) where
  -- so are all chunks of a call
  abbrev Same : List Span → Type 0
  Same spans = (number reached taken : ℕ) (heights : List ℕ)
      → judge_all (bare S) records work spans number reached taken heights
      ≡ judge_all S records work spans number reached taken heights

  pub same_judged : (spans : List Span) (number reached taken : ℕ) (heights : List ℕ)
      → judge_all (bare S) records work spans number reached taken heights
      ≡ judge_all S records work spans number reached taken heights
  unfolding judge_all
  same_judged [] number reached taken heights = refl
  same_judged (span ∷ spans) number reached taken heights =
      go (judge_chunk S span records work) refl (same_judged spans)
    where
      go : (o : chunk.Judged) → judge_chunk S span records work ≡ o → Same spans
          → judge_all (bare S) records work (span ∷ spans) number reached taken heights
          ≡ judge_all S records work (span ∷ spans) number reached taken heights
      go (passes h r t) e more =
          judge_passes (bare S) records work span spans number reached taken heights
          (same_chunk S span records work ∙ e)
          ∙ more (number + 1) (reached + r) (taken + t) (set heights number h)
          ∙ sym (judge_passes S records work span spans number reached taken heights e)
      go (fails a) e more =
          judge_fails (bare S) records work span spans number reached taken heights
          (same_chunk S span records work ∙ e)
          ∙ sym (judge_fails S records work span spans number reached taken heights e)
