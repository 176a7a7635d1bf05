-- Theorem 3. The height is the largest number of operands at an instruction on any path from the entry or just after it, and some path
-- attains it.
-- Theorem 4. Document 01: "reached and taken, summed over the chunks: the starts on some path from the entry; 1 + the edges out of those."
use mathlib.Core.Path.{◌≡◌}
use mathlib.Core.List.{List, []}
use Prim.Native.Nat.{ℕ, ◌+◌}
use native.Mathlib.Omega.{arith}
use Rattle.machine.specs.Lists.{sum_of}
use Rattle.machine.specs.Walk.{Machine, Book, accepted, walk, Log, log}
use Rattle.machine.proofs.Laws.{Laws}
use Rattle.machine.proofs.Paths.{Measured}
use Rattle.machine.proofs.Tables.{places, finished_measures}
use Rattle.machine.proofs.Sound.{Sound, sound_finished, sound_accepted}

module _ {R : Type 0} (M : Machine R) {degree : ℕ → ℕ} {starts : List ℕ} (L : Laws M degree starts) where
  pub measured : (n : ℕ) {b : Book Log} → walk M log n [] ≡ accepted b → Measured M degree b.reached b.taken b.height
  measured n {b} e = rw (s.counts.reached, taken, s.counts.height) (finished_measures M (sound_finished M degree s) degree)
    where
      s : Sound M degree [] b
      s = sound_accepted M degree L n e

      taken : b.taken ≡ 1 + sum_of degree (places b.store)
      taken = omega (arith, s.counts.taken)
