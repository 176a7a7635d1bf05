-- A rule that gives whatever another gave, as under wider rights, accepts what the other accepted, with the very same book; and so does a
-- larger declared height.
use mathlib.Core.Path.{◌≡◌}
use mathlib.Core.List.{List, [], ◌∷◌}
use mathlib.Core.Option.{Option}
use Prim.Native.Nat.{ℕ, zero, suc, ◌≤◌}
use native.Mathlib.Omega.{arith}
use Rattle.answer.specs.Depths.{Item}
use Rattle.answer.specs.declared.Depths.{Depths}
use Rattle.machine.specs.Walk.{Ruling, gives, Machine, Store, Book, Turn, run, accepted, seen, log}
use Rattle.answer.proofs.Apart.{zero≢one}
use Rattle.machine.proofs.Turn.{Again, Enters, Taken, again, enters, refuses, taken_so}
use Rattle.machine.proofs.Run.{run_goes_on, run_stops}
use Rattle.machine.proofs.Exactly.{Accepts}

-- The machine with another rule.
abbrev pub with_rule : {R : Type 0} → Machine R → (ℕ → Depths → Ruling R) → Machine R
with_rule M rule = record {
  entry = M.entry;
  end = M.end;
  start = M.start;
  next = M.next;
  named = M.named;
  rule = rule;
  judge = M.judge;
  off = M.off;
  clash = M.clash;
}

module _ {R : Type 0} (M : Machine R) (rule : ℕ → Depths → Ruling R) where
  pub record Wider : Type 0 where
    pub keeps : {p : ℕ} {d : Depths} {post : ℕ} {fall : Option Depths} {jumps : List Item}
        → M.rule p d ≡ gives post fall jumps
        → rule p d ≡ gives post fall jumps

  abbrev M' : Machine R
  M' = with_rule M rule

  module _ (W : Wider) {S : Type 0} (K : Store S) where
    wider_again : {it : Item} {b : Book S} → Again M K it b → Again M' K it b
    unfolding seen
    wider_again a = record { below = a.below; found = a.found }

    wider_enters : {it : Item} {b : Book S} → Enters M K it b → Enters M' K it b
    unfolding seen
    wider_enters f =
        let g = f.passes in
        record {
          new = record { below = f.new.below; unseen = f.new.unseen };
          passes = record { post = g.post; fall = g.fall; jumps = g.jumps; ruled = W.keeps g.ruled };
          judged = f.judged;
        }

    pub wider_run : (n : ℕ) (w : List Item) (b : Book S) {end : Book S} → run M K n w b ≡ accepted end → run M' K n w b ≡ accepted end
    unfolding run wider_enters
    wider_run zero [] b e = e
    wider_run zero (it ∷ w) b e = absurd (zero≢one (cc))
    wider_run (suc n) [] b e = e
    wider_run (suc n) (it ∷ w) b {end} e = go (taken_so M K it w b).1 (λ w' b' q. wider_run n w' b' q)
      where
        go : {t : Turn R S}
            → Taken M K it w b t
            → ((w' : List Item) (b' : Book S) → run M K n w' b' ≡ accepted end → run M' K n w' b' ≡ accepted end)
            → run M' K (suc n) (it ∷ w) b ≡ accepted end
        go (again a) ih = rw (run_goes_on M' K n (again (wider_again a))) (ih _ _ (rw (run_goes_on M K n (again a)) at e))
        go (enters f) ih = rw (run_goes_on M' K n (enters (wider_enters f))) (ih _ _ (rw (run_goes_on M K n (enters f)) at e))
        go (refuses s) ih = absurd (zero≢one (cc (run_stops M K n (refuses s))))

  pub wider_accepts : Wider → {n declared : ℕ} → Accepts M n declared → Accepts M' n declared
  wider_accepts W {n} a = record { book = a.book; ran = wider_run W log n _ _ a.ran; low = a.low }

pub raised : {R : Type 0} {M : Machine R} {n low high : ℕ} → low ≤ high → Accepts M n low → Accepts M n high
raised h a = record { book = a.book; ran = a.ran; low = omega (arith, a.low) }
