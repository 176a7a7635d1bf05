-- Judging one chunk after the other: what is left from here is what there was from the start.
use mathlib.Core.List.{List, [], ◌∷◌}
use mathlib.Core.Path.{◌≡◌, refl, sym, ap, ◌∙◌}
use Prim.Native.Nat.{ℕ, zero, suc, ◌+◌, ◌*◌, ◌≤◌, ◌<◌, min}
use native.Mathlib.Nat.{suc-min-suc, zero-min, min-zero, le_of_suc-le-suc, not-suc-le-zero}
use native.Mathlib.Omega.{arith}
use lib.ListN.{length, get_or, set, drop, replicate, length-set, drop_of_length-le}
use lib.Seq.{drop-cons}
use Rattle.answer.specs.declared.Refusal.{Refusal}
use Rattle.demand.specs.Chunk.{passes, fails, judge_chunk}
use Rattle.demand.specs.Chunk as chunk
use Rattle.rules.specs.Script.{Script}
use Rattle.demand.specs.Span.{Span, chunk_at}
use Rattle.std.specs.Prelude.{Ok, Err}
use Rattle.judging.specs.Spans.{spans_of}
use Rattle.judging.specs.Judging.{JudgedAll, judge_all}
use Rattle.judging.specs.Judges.{Judges, most_reached, most_taken}

-- ---- spans

pub span_count : (entries ends declared : List ℕ) → length (spans_of entries ends declared) ≡ min (length entries) (min (length ends) (length declared))
unfolding spans_of
span_count [] ends declared = sym (zero-min _)
span_count (e ∷ entries) [] declared = sym (ap (λ (n : ℕ). min (suc (length entries)) n) (zero-min _) ∙ min-zero _)
span_count (e ∷ entries) (n ∷ ends) [] = sym (ap (λ (k : ℕ). min (suc (length entries)) k) (min-zero _) ∙ min-zero _)
span_count (e ∷ entries) (n ∷ ends) (d ∷ declared) =
    ap suc (span_count entries ends declared) ∙ sym (ap (λ (k : ℕ). min (suc (length entries)) k) (suc-min-suc (length ends) (length declared)) ∙ suc-min-suc _ _)

-- the span of a number
abbrev pub span_at : (entries ends declared : List ℕ) → ℕ → Span
span_at entries ends declared k = record { entry = get_or entries k 0; end = get_or ends k 0; declared = get_or declared k 0 }

pub span_there : (entries ends declared : List ℕ) (k : ℕ) → k < length (spans_of entries ends declared)
    → chunk_at (spans_of entries ends declared) k ≡ span_at entries ends declared k
unfolding spans_of
span_there [] ends declared k h = absurd (not-suc-le-zero h)
span_there (e ∷ entries) [] declared k h = absurd (not-suc-le-zero h)
span_there (e ∷ entries) (n ∷ ends) [] k h = absurd (not-suc-le-zero h)
span_there (e ∷ entries) (n ∷ ends) (d ∷ declared) zero h = refl
span_there (e ∷ entries) (n ∷ ends) (d ∷ declared) (suc k) h = span_there entries ends declared k (le_of_suc-le-suc h)

-- what is left from a chunk on
pub chunk_next : (spans : List Span) (k : ℕ) → k < length spans → drop k spans ≡ chunk_at spans k ∷ drop (suc k) spans
chunk_next spans k h = drop-cons spans k _ h

-- one judgement, and after it, where all of its chunks pass, another
unfoldable pub and_then : JudgedAll → ((reached taken : ℕ) → (heights : List ℕ) → JudgedAll) → JudgedAll
and_then judged more =
    elim judged.answer [ Ok sums ↦ more sums.reached sums.taken judged.heights | Err refused ↦ judged ]

module _ (S : Script) (records work : ℕ) where
  -- ---- one chunk

  pub judge_passes : (span : Span) (spans : List Span) (number reached taken : ℕ) (heights : List ℕ) {h r t : ℕ}
      → judge_chunk S span records work ≡ passes h r t
      → judge_all S records work (span ∷ spans) number reached taken heights ≡ judge_all S records work spans (number + 1) (reached + r) (taken + t) (set heights number h)
  unfolding judge_all
  judge_passes span spans number reached taken heights e = rw (e, judge_all)

  pub judge_fails : (span : Span) (spans : List Span) (number reached taken : ℕ) (heights : List ℕ) {a : Refusal}
      → judge_chunk S span records work ≡ fails a
      → judge_all S records work (span ∷ spans) number reached taken heights ≡ record { answer = Err (record { chunk = number; refusal = a }); heights = heights }
  unfolding judge_all
  judge_fails span spans number reached taken heights e = rw (e, judge_all)

  pub judge_none : (number reached taken : ℕ) (heights : List ℕ) → judge_all S records work [] number reached taken heights ≡ record { answer = Ok (record { reached = reached; taken = taken }); heights = heights }
  unfolding judge_all
  judge_none number reached taken heights = refl

  -- judging a chunk and others is judging that chunk, and then the others
  pub judge_then : (span : Span) (spans : List Span) (number reached taken : ℕ) (heights : List ℕ)
      → judge_all S records work (span ∷ spans) number reached taken heights
      ≡ and_then (judge_all S records work (span ∷ []) number reached taken heights) (λ r t h. judge_all S records work spans (number + 1) r t h)
  unfolding and_then
  judge_then span spans number reached taken heights = go (judge_chunk S span records work) refl
    where
      go : (o : chunk.Judged) → judge_chunk S span records work ≡ o
          → judge_all S records work (span ∷ spans) number reached taken heights
          ≡ and_then (judge_all S records work (span ∷ []) number reached taken heights) (λ r t h. judge_all S records work spans (number + 1) r t h)
      go (passes h r t) e =
          rw (judge_passes span spans number reached taken heights e, judge_passes span [] number reached taken heights e, judge_none (number + 1) (reached + r) (taken + t) (set heights number h)) refl
      go (fails a) e = rw (judge_fails span spans number reached taken heights e, judge_fails span [] number reached taken heights e) refl

  -- ---- the loop

  module _ (spans : List Span) (first : ℕ) (before : List ℕ) where
    pub record Judging (heights r w : List ℕ) (at reached taken : ℕ) : Type 0 where
      pub rest : judge_all S records work (drop at spans) (first + at) reached taken heights ≡ judge_all S records work spans first 0 0 before
      pub upto : at ≤ length spans
      pub long : length heights ≡ length before
      pub records_zero : r ≡ replicate records 0
      pub work_zero : w ≡ replicate work 0
      pub few_reached : reached ≤ at * most_reached
      pub few_taken : taken ≤ at * most_taken

    pub judging_first : (r w : List ℕ) → r ≡ replicate records 0 → w ≡ replicate work 0 → Judging before r w 0 0 0
    judging_first r w e f =
        let same : first + 0 ≡ first = omega arith in
        record { rest = rw same refl; upto = omega arith; long = refl; records_zero = e; work_zero = f; few_reached = omega arith; few_taken = omega arith }

    module _ {heights r w : List ℕ} {at reached taken : ℕ} (J : Judging heights r w at reached taken) where
      pub judging_done : length spans ≤ at → Judges S records work spans first before (Ok (record { reached = reached; taken = taken })) heights r w
      judging_done h =
          let all : judge_all S records work spans first 0 0 before ≡ record { answer = Ok (record { reached = reached; taken = taken }); heights = heights } =
          sym J.rest ∙ rw (drop_of_length-le spans {i = at} h) (judge_none (first + at) reached taken heights) in
          record { answer = rw all refl; measured = rw all refl; records_zero = J.records_zero; work_zero = J.work_zero }

      module _ (h : at < length spans) {span : Span} (is : chunk_at spans at ≡ span) where
        here : drop at spans ≡ span ∷ drop (suc at) spans
        here = chunk_next spans at h ∙ ap (λ (s : Span). s ∷ drop (suc at) spans) is

        pub judging_fails : {a : Refusal} → judge_chunk S span records work ≡ fails a
            → {heights' r' w' : List ℕ} → heights' ≡ heights → r' ≡ replicate records 0 → w' ≡ replicate work 0
            → Judges S records work spans first before (Err (record { chunk = first + at; refusal = a })) heights' r' w'
        judging_fails {a} e same z v =
            let all : judge_all S records work spans first 0 0 before ≡ record { answer = Err (record { chunk = first + at; refusal = a }); heights = heights } =
            sym J.rest ∙ rw here (judge_fails span (drop (suc at) spans) (first + at) reached taken heights e) in
            record { answer = rw all refl; measured = same ∙ rw all refl; records_zero = z; work_zero = v }

        pub judging_passes : {height more-reached more-taken : ℕ}
            → judge_chunk S span records work ≡ passes height more-reached more-taken
            → more-reached ≤ most_reached → more-taken ≤ most_taken → {heights' r' w' : List ℕ} → heights' ≡ set heights (first + at) height
            → r' ≡ replicate records 0 → w' ≡ replicate work 0
            → Judging heights' r' w' (at + 1) (reached + more-reached) (taken + more-taken)
        judging_passes {height} {more-reached} {more-taken} e few-r few-t stored z v =
            let next : first + (at + 1) ≡ first + at + 1 = omega arith in
            let one_more : at + 1 ≡ suc at = omega arith in
            record {
              rest = rw (next, one_more, stored) (sym (judge_passes span (drop (suc at) spans) (first + at) reached taken heights e) ∙ rw (← here) J.rest);
              upto = omega arith;
              long = ap length stored ∙ length-set heights (first + at) height ∙ J.long;
              records_zero = z;
              work_zero = v;
              few_reached = omega (arith, J.few_reached);
              few_taken = omega (arith, J.few_taken);
            }
