-- `probe::probe_count` meets its contract: so few words hold no more ones than fit.
use native.Mathlib.Omega.{arith}
use Rattle.marks.proofs.Counts.{total_most}
use Rattle.probe.proofs.probe_count.Goals as goal

pub count-requires : goal.count-requires
count-requires c =
    omega (arith, total_most c.args.marks.now (λ i. (c.type_inv.marks i).fits))
