-- A chunk's own tests: what each of them comes to, and that it passes exactly where the facts hold that it is for.
use mathlib.Core.Bool.{Bool, true, false, not, ◌||◌, cond}
use mathlib.Core.List.{List}
use mathlib.Core.Logic.{◌↔◌}
use mathlib.Core.Option.{Option, none, some}
use mathlib.Core.Path.{◌≡◌, refl, sym, ap, ◌∙◌}
use Prim.Native.Nat.{ℕ, ◌+◌, ◌*◌, ◌≤◌, ◌<◌}
use borrow.Author.Tests.{ltb-false, lt-ltb, le-ltb, eq-eqb, ne_eqb}
use lib.Dec.{ltb, eqb}
use lib.ListN.{length}
use Rattle.code.specs.Layout.{among}
use Rattle.listing.specs.Starts.{starts}
use Rattle.marks.specs.Places.{bit_at, is_one}
use Rattle.answer.specs.declared.Buffer.TheVariants.{Records, Work}
use Rattle.answer.specs.declared.Refusal.{Refusal}
use Rattle.answer.specs.declared.Refusal.TheVariants.{NoRoom, ChunkOutOfRange, Misaligned}
use Rattle.demand.specs.Chunk.{span_test, room_test}
use Rattle.answer.proofs.Apart.{zero≢one}
use Rattle.std.specs.Prelude.{Result, Ok, Err}
use Rattle.demand.specs.Span.{InCode}
use Rattle.opening.specs.Opens.{lent_test}
use Rattle.opening.specs.Ready.{Tells}
use Rattle.answer.specs.Answer.{told}

-- what a test tells, by its outcome
pub tells_refusal : {r : Result (Unit {0}) Refusal} {t : Option Refusal} {refusal : Refusal} → told r ≡ t → r ≡ Err refusal
    → t ≡ some refusal
unfolding told
tells_refusal e q = sym e ∙ ap told q

pub tells_none : {r : Result (Unit {0}) Refusal} {t : Option Refusal} {passed : Unit {0}} → told r ≡ t → r ≡ Ok passed → t ≡ none
unfolding told
tells_none e q = sym e ∙ ap told q

-- ---- 7 and 8

module _ (code : List ℕ) (entry end : ℕ) where
  pub out_of_order : end < entry → some (ChunkOutOfRange entry end) ≡ span_test code entry end
  unfolding span_test
  out_of_order h = rw (lt-ltb end entry h) refl

  module _ (o : entry ≤ end) where
    pub past_code : length code < end → some (ChunkOutOfRange entry end) ≡ span_test code entry end
    unfolding span_test
    past_code h = rw (le-ltb end entry o, lt-ltb (length code) end h) refl

    module _ (i : end ≤ length code) {marks : List ℕ} (m : Tells marks code) {b : Bool} (bit : b ≡ is_one (bit_at marks entry)) where
      pub at_start : b ≡ true → none ≡ span_test code entry end
      unfolding span_test
      at_start t = rw (le-ltb end entry o, le-ltb (length code) end i, ← m.bit entry, ← bit, t) refl

      pub at_end : b ≡ false → entry ≡ length code → none ≡ span_test code entry end
      unfolding span_test
      at_end f e = rw (le-ltb end entry o, le-ltb (length code) end i, ← m.bit entry, ← bit, f, eq-eqb entry (length code) e) refl

      pub at_neither : b ≡ false → (entry ≡ length code → ⊥) → some (Misaligned entry) ≡ span_test code entry end
      unfolding span_test
      at_neither f n = rw (le-ltb end entry o, le-ltb (length code) end i, ← m.bit entry, ← bit, f, ne_eqb entry (length code) n) refl

  pub span_passed : span_test code entry end ≡ none → InCode code entry end
  unfolding span_test
  span_passed = go (ltb end entry) refl (ltb (length code) end) refl (among entry (starts code) || eqb entry (length code)) refl
    where
      go : (a : Bool) → ltb end entry ≡ a → (b : Bool) → ltb (length code) end ≡ b
          → (d : Bool) → (among entry (starts code) || eqb entry (length code)) ≡ d
          → ◌≡◌ {A = Option Refusal} (cond (a || b) (some (ChunkOutOfRange entry end)) (cond (not d) (some (Misaligned entry)) none)) none
          → InCode code entry end
      go true qa b qb d qd e = absurd (zero≢one (cc))
      go false qa true qb d qd e = absurd (zero≢one (cc))
      go false qa false qb false qd e = absurd (zero≢one (cc))
      go false qa false qb true qd e = record { in_order = ltb-false end entry qa; in_code = ltb-false (length code) end qb; aligned = qd }

  pub in_code_passes : InCode code entry end → span_test code entry end ≡ none
  unfolding span_test
  in_code_passes i = rw (le-ltb end entry i.in_order, le-ltb (length code) end i.in_code, i.aligned) refl

  pub span_exactly : span_test code entry end ≡ none ↔ InCode code entry end
  span_exactly = (span_passed, in_code_passes)

-- what each outcome of the tests tells
pub ruleset span_tests = (out_of_order, past_code, at_start, at_end, at_neither)

-- ---- room

module _ (targets edges records work : ℕ) where
  -- where records are too few, the test of work is not asked
  pub no_records : {refusal : Refusal} → some refusal ≡ lent_test (4 * (1 + targets)) records Records
      → some refusal ≡ room_test targets edges records work
  unfolding lent_test room_test
  no_records e = go (ltb records (4 * (1 + targets))) _ e
    where
      go : (b : Bool) {refusal : Refusal} (t : Option Refusal) → some refusal ≡ cond b (some (NoRoom (4 * (1 + targets)) 3)) none
          → some refusal ≡ cond b (some (NoRoom (4 * (1 + targets)) 3)) t
      go true t e = e
      go false t e = absurd (zero≢one (cc))

  pub records_there : none ≡ lent_test (4 * (1 + targets)) records Records
      → lent_test (4 * (1 + edges)) work Work ≡ room_test targets edges records work
  unfolding lent_test room_test
  records_there e = go (ltb records (4 * (1 + targets))) _ e
    where
      go : (b : Bool) (t : Option Refusal) → ◌≡◌ {A = Option Refusal} none (cond b (some (NoRoom (4 * (1 + targets)) 3)) none)
          → t ≡ cond b (some (NoRoom (4 * (1 + targets)) 3)) t
      go true t e = absurd (zero≢one (cc))
      go false t e = refl

  pub both_fit : 4 * (1 + targets) ≤ records → 4 * (1 + edges) ≤ work → none ≡ room_test targets edges records work
  unfolding room_test
  both_fit r w = rw (le-ltb records (4 * (1 + targets)) r, le-ltb work (4 * (1 + edges)) w) refl

  pub record Fits : Type 0 where
    pub records_fit : 4 * (1 + targets) ≤ records
    pub work_fits : 4 * (1 + edges) ≤ work

  pub room_passed : room_test targets edges records work ≡ none → Fits
  unfolding room_test
  room_passed = go (ltb records (4 * (1 + targets))) refl (ltb work (4 * (1 + edges))) refl
    where
      go : (a : Bool) → ltb records (4 * (1 + targets)) ≡ a → (b : Bool) → ltb work (4 * (1 + edges)) ≡ b
          → ◌≡◌ {A = Option Refusal} (cond a (some (NoRoom (4 * (1 + targets)) 3)) (cond b (some (NoRoom (4 * (1 + edges)) 4)) none)) none → Fits
      go true qa b qb e = absurd (zero≢one (cc))
      go false qa true qb e = absurd (zero≢one (cc))
      go false qa false qb e = record { records_fit = ltb-false records (4 * (1 + targets)) qa; work_fits = ltb-false work (4 * (1 + edges)) qb }

  pub room_exactly : room_test targets edges records work ≡ none ↔ Fits
  room_exactly = (room_passed, λ fits. sym (both_fit fits.records_fit fits.work_fits))
