-- The counts of a chunk that passes are small.
use mathlib.Core.Path.{◌≡◌, sym, ◌∙◌}
use Prim.Native.Nat.{ℕ, ◌+◌, ◌≤◌}
use native.Mathlib.Omega.{arith}
use Rattle.opening.specs.Ready.{Ready}
use Rattle.pools.proofs.Most.{code_small, room_small}
use Rattle.demand.specs.Chunk.{machine, passes, walked, judge_chunk}
use Rattle.demand.specs.BeforeWalk.{BeforeWalk}
use Rattle.demand.specs.Span.{Span, E}
use Rattle.rules.specs.Script.{Script}
use Rattle.demand.proofs.Demand.{fails_by, passes_to, Height, above, within, within_or_above, Told, accepts, refuses}
use Rattle.demand.proofs.Demand.{walk_told, judged_walks, few_instructions}
use Rattle.machine.proofs.Ends.{accepted_bounded}
use Rattle.demand.proofs.Keeps.{keeps_laws}
use Rattle.answer.proofs.Apart.{zero≢one}
use Rattle.judging.specs.Judges.{most_reached, most_taken}
use Rattle.verify.proofs.Chunks.{passes_opens}
use Rattle.judging.proofs.Walking.{few_edges}

module _ (S : Script) (R : Ready S) (span : Span) (records work : ℕ) where
  before : {h r t : ℕ} → judge_chunk S span records work ≡ passes h r t → BeforeWalk S span records work
  before e =
      let o = passes_opens S span records work e in
      record {
        decoded = R.listable.decoded;
        chain_there = λ p s has. ((R.chain_there p s).chain has).entry;
        switch_there = λ p s has. ((R.listable.switch_there p s).switch has).entry;
        chains_within = R.chains_within;
        switches_within = R.switches_within;
        in_order = o.in_code.in_order;
        in_code = o.in_code.in_code;
        aligned = o.in_code.aligned;
        records_room = o.records_room;
        work_room = o.work_room;
      }

  pub record Small (reached taken : ℕ) : Type 0 where
    pub few_reached : reached ≤ most_reached
    pub few_taken : taken ≤ most_taken

  pub small : {h r t : ℕ} → judge_chunk S span records work ≡ passes h r t → Small r t
  unfolding E
  small {h} {r} {t} e = go (walk_told S span (before e))
    where
      judged : walked S span ≡ passes h r t
      judged = sym (judged_walks S span (before e)) ∙ e

      go : Told S span (before e) → Small r t
      go (accepts b q j) = by_height (within_or_above b.height span.declared)
        where
          by_height : Height b.height span.declared → Small r t
          by_height (above l p) = let both = sym (j ∙ fails_by _ p) ∙ judged in absurd (zero≢one (cc))
          by_height (within l p) =
              let both = sym (j ∙ passes_to _ p) ∙ judged in
              let most = (accepted_bounded (machine S span) (keeps_laws S span (before e)) (1 + E S span) q).0 in
              let same_reached : b.reached ≡ r = cc both in
              let same_taken : b.taken ≡ t = cc both in
              record {
                few_reached = omega (arith, most.few, few_instructions S span (before e), R.listable.small, same_reached, code_small);
                few_taken = omega (arith, most.room, few_edges S R span (before e), same_taken, room_small);
              }
      go (refuses a q j) = absurd (zero≢one (cc (j, judged)))
