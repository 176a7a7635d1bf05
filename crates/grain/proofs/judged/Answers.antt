-- `grain::judged` meets its contract: each stage hands to the next what the laws of a call between two stages ask.
use mathlib.Core.List.{List}
use Prim.Native.Nat.{ℕ, ◌<◌}
use native.Mathlib.Omega.{arith}
use lib.ListN.{length}
use Rattle.std.proofs.Common.{rules}
use Rattle.verify.proofs.Between.{stands_first, ended, stands_asks, stands_next, stands_done}
use Rattle.grain.specs.declared.Chunk.{Chunk}
use Rattle.grain.specs.Chunks.{spans_from}
use Rattle.grain.proofs.Spans.{spans_count, span_there}
use Rattle.grain.proofs.judged.Goals as goal

-- there are as many spans as chunks
below : (chunks : List Chunk) (number : ℕ) → number < length chunks → number < length (spans_from chunks)
below chunks number l = omega (arith, l, spans_count chunks)

pub returns-in_err-counted : goal.returns-in_err-counted
returns-in_err-counted c = ended _ _ _ (stands_first _ _ _ c.in_err-counted.ensures) (search rules)

pub loop-number-init : goal.loop-number-init
loop-number-init c = stands_first _ _ _ c.in_ok-counted.ensures

pub take_span-requires : goal.take_span-requires
take_span-requires c =
    stands_asks _ _ _ c.requires c.loop-number.invariant (below _ _ c.loop-number-test.true)

pub returns-in_err-counted-2 : goal.returns-in_err-counted-2
returns-in_err-counted-2 c =
    let left = below _ _ c.loop-number-test.true in
    ended _ _ _ (
    stands_next _ _ _ c.requires c.loop-number.invariant left (span_there _ _ c.loop-number-test.true)
    c.in_err-counted-2.ensures) (search rules)

pub loop-number-preserved : goal.loop-number-preserved
loop-number-preserved c =
    let left = below _ _ c.loop-number-test.true in
    stands_next _ _ _ c.requires c.loop-number.invariant left (span_there _ _ c.loop-number-test.true)
    c.in_ok-counted-2.ensures

pub returns : goal.returns
returns c =
    stands_done _ _ _ c.requires c.loop-number.invariant
    (omega (arith, c.loop-number-test.false, spans_count c.args.chunks.now))
