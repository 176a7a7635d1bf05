-- The whole call, way by way: refused before any store, refused before the chunks, or judged.
use mathlib.Core.List.{List, [], ◌∷◌}
use mathlib.Core.Logic.{◌⊎◌, inl, inr}
use mathlib.Core.Option.{none, some}
use mathlib.Core.Path.{◌≡◌, refl, sym, ap, ◌∙◌}
use Prim.Native.Nat.{ℕ, ◌+◌, ◌^◌, ◌≤◌, ◌<◌}
use native.Mathlib.Omega.{arith}
use borrow.Author.Tests.{le-leb, lt-leb}
use lib.ListN.{length, replicate, length-replicate}
use Rattle.std.specs.Prelude.{Result, Ok, Err}
use Rattle.before.specs.Before.{Test, first, before_stores, after_stores, marks_of}
use Rattle.before.specs.Calls.{before_chunks, marks_from, marks_after}
use Rattle.before.specs.Input.{Input}
use Rattle.before.proofs.Established as known
use Rattle.code.specs.Width.{width_of}
use Rattle.code.proofs.Widths.{width_there}
use Rattle.listing.specs.Starts.{starts}
use Rattle.listing.proofs.Starts.{listed_start, rising, start_wide}
use Rattle.marks.specs.Marks.{total}
use Rattle.marks.proofs.Counts.{rising_length}
use Rattle.opening.specs.Ready.{Ready, Marked}
use Rattle.pools.proofs.LimitLaws.{code_kept, cases_kept, ranges_kept}
use Rattle.pools.proofs.Most.{code_small}
use Rattle.pools.proofs.TableLaws.{chains_within, switches_within}
use Rattle.answer.specs.Answer.{no_chunk, refused}
use Rattle.answer.specs.declared.Accepted.{Accepted}
use Rattle.answer.specs.declared.Refusal.{Refusal}
use Rattle.answer.specs.declared.verdict.Verdict.{Verdict}
use Rattle.demand.specs.Span.{Span}
use Rattle.answer.proofs.Apart.{zero≢one}
use Rattle.judging.specs.Judges.{Judges}
use Rattle.judging.specs.declared.Refused.{Refused}
use Rattle.judging.specs.declared.Sums.{Sums}
use Rattle.verify.specs.Call.{Memory, verdict_on, marks_on, start_bits, after_chunks, after_late_tests}
use Rattle.verify.specs.Call.{after_early_tests, result, Calls}
use Rattle.verify.specs.Stages.{State, words_on, advanced, marks_then, Advances, finished}
use Rattle.verify.specs.Demand.{ComesToChunks}
use Rattle.verify.proofs.Accounts.{accounted}
use Rattle.verify.proofs.Sorts.{early_kind, late_kind}

-- zeros of a length are zeros of their own
pub zeros_still : {words : List ℕ} (n : ℕ) → words ≡ replicate n 0 → words ≡ replicate (length words) 0
zeros_still {words} n e = e ∙ ap (λ (k : ℕ). replicate k 0) (sym (ap length e ∙ length-replicate n 0))

-- ---- the end

-- a verdict and marks that follow from judged chunks
pub record Concludes (judgement : Result Sums Refused) (marks : List ℕ) (r : Verdict) (marks' : List ℕ) : Type 0 where
  pub verdict : r ≡ verdict_on judgement marks
  pub bits : marks' ≡ marks_on judgement marks

module _ {marks : List ℕ} where
  pub concludes_passed : {counted : Accepted} → counted.instructions ≡ total marks
      → Concludes (Ok (record { reached = counted.reached; taken = counted.taken })) marks (finished (Ok counted)) marks
  unfolding verdict_on marks_on finished
  concludes_passed e = record { verdict = rw e refl; bits = refl }

  pub concludes_refused : {failed : Refused} {r : Verdict} → r ≡ refused failed.chunk failed.refusal
      → {marks' : List ℕ} → marks' ≡ replicate (length marks) 0 → Concludes (Err failed) marks r marks'
  unfolding verdict_on marks_on
  concludes_refused v z = record { verdict = v; bits = z }

  -- the state after all chunks at once, where nothing but the marks is counted yet
  pub concludes : {counted : Accepted} → counted.instructions ≡ total marks → counted.reached ≡ 0 → counted.taken ≡ 0
      → {judgement : Result Sums Refused} {r : State} {marks' : List ℕ} → Advances (Ok counted) judgement marks r marks'
      → Concludes judgement marks (finished r) marks'
  unfolding verdict_on advanced marks_then finished
  concludes {counted} e none_reached none_taken {judgement} {r} {marks'} a = go judgement a
    where
      go : (o : Result Sums Refused) → Advances (Ok counted) o marks r marks' → Concludes o marks (finished r) marks'
      go (Ok more) a =
          let reached : counted.reached + more.reached ≡ more.reached = omega (arith, none_reached) in
          let taken : counted.taken + more.taken ≡ more.taken = omega (arith, none_taken) in
          record { verdict = rw (a.next, e, reached, taken) refl; bits = a.bits }
      go (Err failed) a = record { verdict = rw a.next refl; bits = a.bits }

-- ---- what passes before the chunks is what judging them builds on

module _ (I : Input) (is : known.Established I) where
  pub ready : Ready I.script
  ready = record {
    listable = record {
      decoded = is.decoded;
      switch_there = known.switch_there I is;
      small = code_kept is.kept;
      few_cases = cases_kept is.kept;
      few_ranges = ranges_kept is.kept;
    };
    name_there = known.name_there I is;
    chain_there = known.chain_there I is;
    chains_within = chains_within is.good;
    switches_within = switches_within is.good;
  }

  -- there are no more starts than bytes
  few_starts : length (starts I.script.code) ≤ length I.script.code
  few_starts =
      omega (
        arith,
        rising_length (starts I.script.code) (length I.script.code) (rising width_of I.script.code 0)
            (λ i m. (width_there width_of I.script.code i (start_wide width_of I.script.code (listed_start width_of I.script.code i m))).byte),
      )

  pub starts_small : length (starts I.script.code) < 2 ^ 64
  starts_small = omega (arith, few_starts, code_kept is.kept, code_small)

-- ---- the ways

module _ (I : Input) (spans : List Span) (before : Memory) where
  early : Test
  early = before_stores I (length before.marks) (length before.heights)

  -- a refusal before the chunks comes before any store or after the first
  which : {a : Refusal} → before_chunks I (length before.marks) (length before.heights) ≡ some a
      → (early ≡ some a) ⊎ ((early ≡ none) × (after_stores I ≡ some a))
  unfolding before_chunks early first
  which {a} e = go (before_stores I (length before.marks) (length before.heights)) refl (after_stores I) refl e
    where
      go : (x : Test) → early ≡ x → (y : Test) → after_stores I ≡ y → first (x ∷ y ∷ []) ≡ some a
          → (early ≡ some a) ⊎ ((early ≡ none) × (after_stores I ≡ some a))
      go (some b) q y r f = inl (q ∙ f)
      go none q (some b) r f = inr (q, r ∙ f)
      go none q none r f = absurd (zero≢one (cc))

  -- the marks are those that everything before the chunks left
  module _ {marks' : List ℕ} (m : marks' ≡ marks_after I (length before.heights) before.marks) where
    -- refused: of kinds 1 to 3 nothing is stored; of the others records and work are zeroed, and so are marks
    pub stopped : {a : Refusal} → before_chunks I (length before.marks) (length before.heights) ≡ some a
        → {records' work' : List ℕ} → records' ≡ words_on (some a) before.records
        → work' ≡ words_on (some a) before.work
        → Calls I spans before (refused no_chunk a)
        (record { marks = marks'; heights = before.heights; records = records'; work = work' })
    unfolding words_on after_early_tests after_late_tests marks_from marks_of early
    stopped {a} e {records'} {work'} r w = go (which e)
      where
        go : (early ≡ some a) ⊎ ((early ≡ none) × (after_stores I ≡ some a))
            → Calls I spans before (refused no_chunk a)
            (record { marks = marks'; heights = before.heights; records = records'; work = work' })
        go (inl q) =
            let k = early_kind _ _ _ _ _ _ _ _ q in
            let same_records : records' ≡ before.records = r ∙ rw (le-leb _ _ k.1) refl in
            let same_work : work' ≡ before.work = w ∙ rw (le-leb _ _ k.1) refl in
            record {
              verdict = rw q refl;
              memory = rw (m, same_records, same_work, q) refl;
              accepted = λ z. absurd (omega (arith, z, k.0));
            }
        go (inr q) =
            let k = late_kind _ _ _ _ _ _ q.1 in
            let zero_records : records' ≡ replicate (length before.records) 0 = r ∙ rw (lt-leb _ _ k.0) refl in
            let zero_work : work' ≡ replicate (length before.work) 0 = w ∙ rw (lt-leb _ _ k.0) refl in
            record {
              verdict = rw (q.0, q.1) refl;
              memory = rw (m, zero_records, zero_work, q.0, q.1) refl;
              accepted = λ z. absurd (omega (arith, z, k.0));
            }

    -- passed
    module _ (passed : before_chunks I (length before.marks) (length before.heights) ≡ none) where
      pub marked_so : Marked marks' I.script.code
      marked_so = rw m (known.marks_hold I (length before.heights) before.marks passed)

      both_passed : (early ≡ none) × (after_stores I ≡ none)
      unfolding early
      both_passed = (known.early_passed I _ _ passed, known.late_passed I _ _ passed)

      begins : ComesToChunks I before
      unfolding early
      begins = record { early = both_passed.0; late = both_passed.1 }

      bits : marks' ≡ start_bits I spans before
      unfolding marks_from early
      bits = m ∙ rw (both_passed.0, both_passed.1) refl

      pub judged_call : {judgement : Result Sums Refused} {heights' records' work' : List ℕ}
          → Judges I.script (length before.records) (length before.work) spans 0 before.heights judgement heights'
          records' work'
          → {r : Verdict} {marks'' : List ℕ} → Concludes judgement marks' r marks'' → I.chunks ≡ length spans
          → Calls I spans before r (record { marks = marks''; heights = heights'; records = records'; work = work' })
      unfolding after_early_tests after_late_tests after_chunks early
      judged_call {judgement} {heights'} {records'} {work'} j {r} {marks''} c chunks =
          let v : r ≡ (result I spans before).verdict =
          c.verdict ∙ rw (bits, j.answer, both_passed.0, both_passed.1) refl in
          let after : Memory = record { marks = marks''; heights = heights'; records = records'; work = work' } in
          let m : after ≡ (result I spans before).memory =
          rw (c.bits, bits, j.answer, j.measured, j.records_zero, j.work_zero, both_passed.0, both_passed.1) refl in
          record {
            verdict = v;
            memory = m;
            accepted = λ z.
                rw (v, ap (λ (x : Memory). x.heights) m)
                (accounted I spans before begins chunks (ap (λ (x : Verdict). x.kind) (sym v) ∙ z));
          }
