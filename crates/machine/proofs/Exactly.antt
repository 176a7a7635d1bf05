-- Theorem 2. The walk accepts a chunk under a declared height exactly if depths can be written beside its instructions under that height.
-- Theorem 8. The height that the walk measures is the least declared height under which the chunk is accepted.
use mathlib.Core.Path.{◌≡◌, refl}
use mathlib.Core.List.{List, [], ◌∷◌}
use mathlib.Core.Logic.{◌⊎◌, inl, inr, ◌↔◌}
use mathlib.Core.Option.{Option, some}
use Prim.Native.Nat.{ℕ, ◌+◌, ◌≤◌}
use native.Mathlib.Omega.{arith}
use Rattle.machine.specs.Lists.{◌∈◌, here, there, sum_of}
use Rattle.answer.specs.Depths.{Item}
use Rattle.answer.specs.declared.Depths.{Depths}
use Rattle.machine.specs.Walk.{Machine, origin, Book, blank, entered, Run, accepted, refused, unfinished, walk}
use Rattle.machine.specs.Walk.{Log, lookup, log}
use Rattle.answer.proofs.Apart.{zero≢one}
use Rattle.machine.proofs.Lists.{∉-nil, ∈-cases}
use Rattle.machine.proofs.Laws.{Laws}
use Rattle.machine.proofs.Paths.{edges, Good, Writing, raise}
use Rattle.machine.proofs.Tables.{top, finished_writes}
use Rattle.machine.proofs.Waiting.{waiting, waiting_joins, jump_edge}
use Rattle.machine.proofs.Turn.{bad_some, Enters, Refuses, is_off, clashes, is_denied, jumps_badly}
use Rattle.machine.proofs.Run.{Kept, when_accepted, when_refused}
use Rattle.machine.proofs.Closed.{seen_entered}
use Rattle.machine.proofs.Sound.{sound_finished, sound_accepted}
use Rattle.machine.proofs.Ends.{ends}

-- Accepted with n units under a declared height.
pub record Accepts {R : Type 0} (M : Machine R) (n declared : ℕ) : Type 0 where
  pub book : Book Log
  pub ran : walk M log n [] ≡ accepted book
  pub low : book.height ≤ declared

-- ---- nothing good is refused

module _ {R : Type 0} (M : Machine R) (A : ℕ → Option Depths) (height : ℕ) where
  abbrev Borne : Item → Type 0
  Borne it = A it.place ≡ some it.depths

  -- What waits and what was entered is at places that bear these very depths.
  record Agrees (w : List Item) (b : Book Log) : Type 0 where
    ahead : (it : Item) → it ∈ w → Borne it
    behind : (it : Item) → it ∈ b.store → Borne it
    low : b.height ≤ height

  module _ (W : Writing M height A) where
    agrees_begun : Agrees (origin M ∷ []) (blank [])
    agrees_begun = record { ahead = λ x m. ahead x (∈-cases m); behind = λ x m. absurd (∉-nil m); low = omega arith }
      where
        ahead : (x : Item) → (x ≡ origin M) ⊎ (x ∈ []) → Borne x
        ahead x (inl e) = rw e W.begun
        ahead x (inr m) = absurd (∉-nil m)

    agrees_enters : {it : Item} {w : List Item} {b : Book Log}
        → Agrees (it ∷ w) b
        → (f : Enters M log it b)
        → Agrees (waiting M it f.passes w) (entered log it f.passes.post b)
    agrees_enters {it} {w} {b} a f = record {
      ahead = λ x m. ahead x ((waiting_joins M f.passes w).cases m);
      behind = λ x m. behind x (∈-cases m);
      low = omega (arith, a.low, good.low, good.low_after, same_post);
    }
      where
        good : Good M A height it
        good = W.good it (a.ahead it (here refl))

        same_post : good.passes.post ≡ f.passes.post
        same_post = cc (good.passes.ruled, f.passes.ruled)

        ahead : (x : Item) → (x ∈ edges M it) ⊎ (x ∈ w) → Borne x
        ahead x (inl m) = good.borne x m
        ahead x (inr m) = a.ahead x (there m)

        behind : (x : Item) → (x ≡ it) ⊎ (x ∈ b.store) → Borne x
        behind x (inl e) = rw e (a.ahead it (here refl))
        behind x (inr m) = a.behind x m

    agrees_kept : Kept M log Agrees
    agrees_kept = record {
      again = λ a s. record { ahead = λ x m. a.ahead x (there m); behind = a.behind; low = a.low };
      enters = agrees_enters;
    }

    agrees_goes : {degree : ℕ → ℕ} {starts : List ℕ}
        → Laws M degree starts
        → {it : Item} {w : List Item} {b : Book Log} {r : R}
        → Agrees (it ∷ w) b
        → ¬ Refuses M log it b r
    agrees_goes L {it} {w} {b} a s = go s
      where
        good : Good M A height it
        good = W.good it (a.ahead it (here refl))

        go : {r : R} → ¬ Refuses M log it b r
        go (is_off h) = omega (arith, good.inside.below)
        go (clashes {d} h e n) =
            let x : Item = record { place = it.place; depths = d } in
            n (cc (a.behind x (seen_entered M x b.store e), a.ahead it (here refl)))
        go (is_denied n e) = zero≢one (cc good.passes.ruled)
        go (jumps_badly n g e) =
            let j = bad_some (M.judge it.place) g.jumps e in
            let at_Target = W.good j.0 (good.borne j.0 (jump_edge M g j.1)) in
            zero≢one (cc ((L.judged it.place j.0.place).1 at_Target.inside, j.2))

-- ---- the theorems

module _ {R : Type 0} (M : Machine R) where
  module _ {degree : ℕ → ℕ} {starts : List ℕ} (L : Laws M degree starts) (n declared : ℕ) where
    written : Accepts M n declared → (A : ℕ → Option Depths) × Writing M declared A
    written a =
        let s = sound_accepted M degree L n a.ran in
        let low : top M a.book.store ≤ declared = omega (arith, s.counts.height, a.low) in
        ((λ p. lookup p a.book.store), raise M low (finished_writes M (sound_finished M degree s)))

    accepts : 1 + sum_of degree starts ≤ n → {A : ℕ → Option Depths} → Writing M declared A → Accepts M n declared
    accepts enough {A} W = go (walk M log n []) refl
      where
        begun : Agrees M A declared (origin M ∷ []) (blank [])
        begun = agrees_begun M A declared W

        kept : Kept M log (Agrees M A declared)
        kept = agrees_kept M A declared W

        go : (o : Run R Log) → walk M log n [] ≡ o → Accepts M n declared
        go (accepted b) e = record { book = b; ran = e; low = (when_accepted M log _ kept n _ _ begun e).low }
        go (refused r u) e =
            let s = when_refused M log _ kept n _ _ begun e in
            absurd (agrees_goes M A declared W L s.holds s.refuses)
        go (unfinished w b) e = absurd (ends M L n enough e)

    -- Theorem 2.
    pub exactly : 1 + sum_of degree starts ≤ n → Accepts M n declared ↔ ((A : ℕ → Option Depths) × Writing M declared A)
    exactly enough = (written, λ w. accepts enough w.1)

  -- Theorem 8.
  pub least : (n : ℕ) {b : Book Log} → walk M log n [] ≡ accepted b → (declared : ℕ) → Accepts M n declared ↔ (b.height ≤ declared)
  least n {b} e declared = (to, λ h. record { book = b; ran = e; low = h })
    where
      to : Accepts M n declared → b.height ≤ declared
      to a = let same : a.book ≡ b = cc a.ran in rw same at a.low
