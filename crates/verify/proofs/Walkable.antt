-- A chunk that passes its own tests, of an input that passed everything before the chunks, has all that its walk builds on.
use mathlib.Core.Bool.{true, ◌||◌}
use mathlib.Core.Path.{◌≡◌}
use Prim.Native.Nat.{ℕ, ◌+◌, ◌*◌, ◌≤◌}
use lib.Dec.{eqb}
use lib.ListN.{length}
use Rattle.code.specs.Layout.{among}
use Rattle.listing.specs.Starts.{starts}
use Rattle.pools.proofs.TableLaws.{chains_within, switches_within}
use Rattle.demand.specs.BeforeWalk.{BeforeWalk}
use Rattle.demand.specs.Span.{Span, T, E}
use Rattle.before.specs.Input.{Input}
use Rattle.before.proofs.Established.{Established, chain_there, switch_there}

module _ (I : Input) (is : Established I) where
  -- with what a chunk's own tests establish, all that comes before its walk
  pub before_walk : (span : Span) (records work : ℕ) → span.entry ≤ span.end → span.end ≤ length I.script.code
      → among span.entry (starts I.script.code) || eqb span.entry (length I.script.code) ≡ true
      → 4 * (1 + T I.script span) ≤ records → 4 * (1 + E I.script span) ≤ work → BeforeWalk I.script span records work
  before_walk span records work in_order in_code aligned records_room work_room = record {
    decoded = is.decoded;
    chain_there = λ p s has. ((chain_there I is p s).chain has).entry;
    switch_there = λ p s has. ((switch_there I is p s).switch has).entry;
    chains_within = chains_within is.good;
    switches_within = switches_within is.good;
    in_order = in_order;
    in_code = in_code;
    aligned = aligned;
    records_room = records_room;
    work_room = work_room;
  }
