-- The whole call in stages: what each stage does, and what stands between two of them.
use mathlib.Core.List.{List, [], ◌∷◌}
use mathlib.Core.Option.{none, some}
use mathlib.Core.Path.{◌≡◌, refl, sym, ap, ◌∙◌}
use Prim.Native.Nat.{ℕ, ◌+◌, ◌*◌, ◌^◌, ◌≤◌, ◌<◌}
use native.Mathlib.Omega.{arith}
use lib.ListN.{length, set, length-replicate, replicate}
use Rattle.std.specs.Prelude.{Result, Ok, Err}
use Rattle.before.specs.Before.{Test}
use Rattle.before.specs.Calls.{Outcome, before_chunks, marks_after, ForChunks}
use Rattle.before.specs.Input.{Input}
use Rattle.before.proofs.Established.{established, marks_count, room}
use Rattle.listing.specs.Starts.{starts}
use Rattle.marks.specs.Marks.{total}
use Rattle.opening.specs.Ready.{Ready, Marked}
use Rattle.pools.specs.Sizes.{max_chunks}
use Rattle.pools.proofs.LimitLaws.{chunks_kept}
use Rattle.answer.specs.Answer.{no_chunk, refused, told}
use Rattle.answer.specs.declared.Accepted.{Accepted}
use Rattle.answer.specs.declared.Refusal.{Refusal}
use Rattle.answer.specs.declared.verdict.Verdict.{Verdict}
use Rattle.answer.proofs.Apart.{zero≢one}
use Rattle.demand.specs.Chunk.{passes, fails, judge_chunk}
use Rattle.demand.specs.Chunk as chunk
use Rattle.demand.specs.Span.{Span, chunk_at}
use Rattle.rules.specs.Script.{Script}
use Rattle.judging.specs.declared.Refused.{Refused}
use Rattle.judging.specs.declared.Sums.{Sums}
use Rattle.judging.specs.Judging.{JudgedAll, judge_all}
use Rattle.judging.specs.Judges.{Judges, most_reached, most_taken}
use Rattle.judging.proofs.Chain.{judge_passes, judge_fails, judge_none, Judging, judging_first, judging_done}
use Rattle.judging.proofs.Chain.{judging_fails, judging_passes}
use Rattle.verify.specs.Call.{Memory, marks_on, Calls}
use Rattle.verify.specs.Stages.{State, opened, words_on, Begins, advanced, marks_then, Advances, Fits, Few}
use Rattle.verify.specs.Stages.{ReadyForChunk, Takes, finished}
use Rattle.verify.proofs.Small.{small}
use Rattle.verify.proofs.Whole.{ready, starts_small, zeros_still, stopped, marked_so, judged_call}
use Rattle.verify.proofs.Whole.{concludes_passed, concludes_refused, concludes}

-- ---- everything before the chunks

-- the bits can be counted
pub marks_fit : (I : Input) (heights : ℕ) (marks : List ℕ) {o : Outcome} {marks' : List ℕ}
    → ForChunks I heights marks o marks' → o ≡ Ok tt → total marks' < 2 ^ 64
unfolding told
marks_fit I heights marks {o} {marks'} k e =
    let passed : before_chunks I (length marks) heights ≡ none = sym k.answer ∙ ap told e in
    let counted : total marks' ≡ length (starts I.script.code) = rw k.marks (marks_count I heights marks passed) in
    omega (arith, counted, starts_small I (established I (length marks) heights passed))

-- ---- one chunk after the other

-- a chunk judged by itself
module _ (S : Script) (records work : ℕ) (span : Span) (number : ℕ) (heights : List ℕ) where
  abbrev alone : JudgedAll
  alone = judge_all S records work (span ∷ []) number 0 0 heights

  one_passes : {h r t : ℕ} → judge_chunk S span records work ≡ passes h r t
      → alone ≡ record { answer = Ok (record { reached = r; taken = t }); heights = set heights number h }
  one_passes {h} {r} {t} e =
      let r_alone : 0 + r ≡ r = omega arith in
      let t_alone : 0 + t ≡ t = omega arith in
      judge_passes S records work span [] number 0 0 heights e
      ∙ rw (r_alone, t_alone) (judge_none S records work (number + 1) r t (set heights number h))

  one_fails : {a : Refusal} → judge_chunk S span records work ≡ fails a
      → alone ≡ record { answer = Err (record { chunk = number; refusal = a }); heights = heights }
  one_fails e = judge_fails S records work span [] number 0 0 heights e

  -- its counts fit, where those before are few
  pub one_fits : Ready S → number ≤ max_chunks → (state : State) → Few state number → Fits state alone.answer
  unfolding Fits Few
  one_fits R low (Err verdict) few = tt
  one_fits R low (Ok counted) few = go (judge_chunk S span records work) refl
    where
      go : (o : chunk.Judged) → judge_chunk S span records work ≡ o → Fits (Ok counted) alone.answer
      go (passes h r t) e =
          let s = small S R span records work e in
          rw (one_passes e) (omega (arith, s.few_reached, few.0), omega (arith, s.few_taken, few.1))
      go (fails a) e = rw (one_fails e) tt

-- the counts of several chunks are few
few_all : (S : Script) (records work : ℕ) → Ready S → (spans : List Span) (number reached taken : ℕ) (heights : List ℕ)
    (sums : Sums) → (judge_all S records work spans number reached taken heights).answer ≡ Ok sums
    → (sums.reached ≤ reached + length spans * most_reached) × (sums.taken ≤ taken + length spans * most_taken)
few_all S records work R [] number reached taken heights sums e =
    let none_left = judge_none S records work number reached taken heights in
    let so : ◌≡◌ {A = Result Sums Refused} (Ok (record { reached = reached; taken = taken })) (Ok sums) =
    sym (ap (λ (j : JudgedAll). j.answer) none_left) ∙ e in
    let same : record { reached = reached; taken = taken } ≡ sums = cc so in
    let same_reached : reached ≡ sums.reached = ap (λ (s : Sums). s.reached) same in
    let same_taken : taken ≡ sums.taken = ap (λ (s : Sums). s.taken) same in
    (omega (arith, same_reached), omega (arith, same_taken))
few_all S records work R (span ∷ spans) number reached taken heights sums e =
    go (judge_chunk S span records work) refl (few_all S records work R spans)
  where
    go : (o : chunk.Judged) → judge_chunk S span records work ≡ o
        → ((number reached taken : ℕ) (heights : List ℕ) (sums : Sums)
        → (judge_all S records work spans number reached taken heights).answer ≡ Ok sums
        → (sums.reached ≤ reached + length spans * most_reached) × (sums.taken ≤ taken + length spans * most_taken))
        → (sums.reached ≤ reached + length (span ∷ spans) * most_reached)
        × (sums.taken ≤ taken + length (span ∷ spans) * most_taken)
    go (passes height more further) q rest =
        let s = small S R span records work q in
        let others = rest (number + 1) (reached + more) (taken + further) (set heights number height) sums
        (sym (ap (λ (j : JudgedAll). j.answer)
        (judge_passes S records work span spans number reached taken heights q)) ∙ e) in
        (omega (arith, others.0, s.few_reached), omega (arith, others.1, s.few_taken))
    go (fails a) q rest =
        let failed = judge_fails S records work span spans number reached taken heights q in
        let so : ◌≡◌ {A = Result Sums Refused} (Err (record { chunk = number; refusal = a })) (Ok sums) =
        sym (ap (λ (j : JudgedAll). j.answer) failed) ∙ e in
        absurd (zero≢one (cc))

module _ {S : Script} {records work : ℕ} {span : Span} {number : ℕ} {heights : List ℕ} {judgement : Result Sums Refused}
    {heights' records' work' : List ℕ}
    (j : Judges S records work (span ∷ []) number heights judgement heights' records' work') where
  pub judged_fits : Ready S → number ≤ max_chunks → (state : State) → Few state number → Fits state judgement
  judged_fits R low state few = rw j.answer (one_fits S records work span number heights R low state few)

-- ---- what stands between two stages

module _ (I : Input) (spans : List Span) (before : Memory) where
  abbrev words : ℕ
  words = length before.records

  abbrev rooms : ℕ
  rooms = length before.work

  abbrev holding : (marks heights records work : List ℕ) → Memory
  holding marks heights records work = record { marks = marks; heights = heights; records = records; work = work }

  -- so many chunks are judged, and the call goes on
  pub record OnTheWay (counted : Accepted) (number : ℕ) (marks heights records work : List ℕ) : Type 0 where
    pub passed : before_chunks I (length before.marks) (length before.heights) ≡ none
    pub instructions : counted.instructions ≡ total marks
    pub bits : marks ≡ marks_after I (length before.heights) before.marks
    pub judging :
        Judging I.script words rooms spans 0 before.heights heights records work number counted.reached counted.taken

  -- or it has ended
  abbrev pub Stands : State → (number : ℕ) → (marks heights records work : List ℕ) → Type 0
  Stands (Ok counted) number marks heights records work = OnTheWay counted number marks heights records work
  Stands (Err verdict) number marks heights records work =
      Calls I spans before verdict (holding marks heights records work)

  -- an end is handed on
  pub ended : {v : Verdict} {m : Memory} → Calls I spans before v m → {r : State} → r ≡ Err v
      → Calls I spans before (finished r) m
  unfolding finished
  ended k e = rw e k

  -- at the first chunk
  pub stands_first : {r : State} {marks' records' work' : List ℕ}
      → Begins I (length before.heights) before.marks before.records before.work r marks' records' work'
      → Stands r 0 marks' before.heights records' work'
  unfolding opened words_on
  stands_first {r} {marks'} {records'} {work'} b =
      go (before_chunks I (length before.marks) (length before.heights)) refl
    where
      go : (t : Test) → before_chunks I (length before.marks) (length before.heights) ≡ t
          → Stands r 0 marks' before.heights records' work'
      go none q =
          let is : r ≡ Ok (record { instructions = total marks'; reached = 0; taken = 0 }) = b.state ∙ rw q refl in
          rw is (record {
            passed = q;
            instructions = refl;
            bits = b.bits;
            judging =
                judging_first I.script words rooms spans 0 before.heights records' work' (b.records_on ∙ rw q refl)
                (b.work_on ∙ rw q refl);
          })
      go (some a) q =
          let is : r ≡ Err (refused no_chunk a) = b.state ∙ rw q refl in
          rw is (stopped I spans before b.bits q (b.records_on ∙ rw q refl) (b.work_on ∙ rw q refl))

  module _ (every : I.chunks ≡ length spans) where
    -- what judging chunks asks of the script, of the marks and of the lent words
    pub record Asked (number : ℕ) (marks heights records work : List ℕ) : Type 0 where
      pub ready : Ready I.script
      pub marked : Marked marks I.script.code
      pub records_zero : records ≡ replicate (length records) 0
      pub work_zero : work ≡ replicate (length work) 0
      pub few_chunks : length spans ≤ max_chunks
      pub room : length spans ≤ length heights

    module _ {counted : Accepted} {number : ℕ} {marks heights records work : List ℕ}
        (w : OnTheWay counted number marks heights records work) where
      as_many : length records ≡ words
      as_many = ap length w.judging.records_zero ∙ length-replicate words 0

      as_roomy : length work ≡ rooms
      as_roomy = ap length w.judging.work_zero ∙ length-replicate rooms 0

      pub asked : Asked number marks heights records work
      asked =
          let is = established I _ _ w.passed in
          let lent = (room I _ _ w.passed).heights_lent in
          record {
            ready = ready I is;
            marked = marked_so I spans before w.bits w.passed;
            records_zero = zeros_still words w.judging.records_zero;
            work_zero = zeros_still rooms w.judging.work_zero;
            few_chunks = omega (arith, chunks_kept is.kept, every);
            room = omega (arith, w.judging.long, lent, every);
          }

      -- what taking a chunk asks
      pub stands_asks : number < length spans → ReadyForChunk I.script number (Ok counted) marks heights records work
      unfolding Few
      stands_asks left =
          let a = asked in
          record {
            ready = a.ready;
            marked = a.marked;
            records_zero = a.records_zero;
            work_zero = a.work_zero;
            room = omega (arith, a.room);
            low = omega (arith, a.few_chunks);
            few = (w.judging.few_reached, w.judging.few_taken);
          }

      -- past it
      pub stands_next : number < length spans → {span : Span} → chunk_at spans number ≡ span
          → {r : State} {marks' heights' records' work' : List ℕ}
          → Takes I.script (length records) (length work) span number (Ok counted) marks heights r marks' heights' records'
          work'
          → Stands r (number + 1) marks' heights' records' work'
      unfolding advanced marks_then marks_on
      stands_next left {span} is {r} {marks'} {heights'} {records'} {work'} took =
          go (judge_chunk I.script span words rooms) refl
        where
          same_number : 0 + number ≡ number
          same_number = omega arith

          k : Takes I.script words rooms span number (Ok counted) marks heights r marks' heights' records' work'
          k = rw (as_many, as_roomy) at took

          go : (o : chunk.Judged) → judge_chunk I.script span words rooms ≡ o
              → Stands r (number + 1) marks' heights' records' work'
          go (passes height more further) q =
              let one = one_passes I.script words rooms span number heights q in
              let s = small I.script asked.ready span words rooms q in
              let so : r ≡ Ok (record {
                instructions = counted.instructions;
                reached = counted.reached + more;
                taken = counted.taken + further;
              }) = k.advances.next ∙ rw one refl in
              let same_marks : marks' ≡ marks = k.advances.bits ∙ rw one refl in
              let stored : heights' ≡ set heights number height = k.measured ∙ rw one refl in
              rw so (record {
                passed = w.passed;
                instructions = w.instructions ∙ ap total (sym same_marks);
                bits = same_marks ∙ w.bits;
                judging =
                    judging_passes I.script words rooms spans 0 before.heights w.judging left is q
                    s.few_reached s.few_taken
                    (rw same_number stored) k.records_zero k.work_zero;
              })
          go (fails a) q =
              let one = one_fails I.script words rooms span number heights q in
              let so : r ≡ Err (refused number a) = k.advances.next ∙ rw one refl in
              let cleared : marks' ≡ replicate (length marks) 0 = k.advances.bits ∙ rw one refl in
              let kept : heights' ≡ heights = k.measured ∙ rw one refl in
              let judged = rw same_number at
              (judging_fails I.script words rooms spans 0 before.heights w.judging left is q kept k.records_zero
              k.work_zero) in
              rw so (judged_call I spans before w.bits w.passed judged (concludes_refused refl cleared) every)

      -- past the last
      pub stands_done : length spans ≤ number
          → Calls I spans before (finished (Ok counted)) (holding marks heights records work)
      stands_done none_left =
          judged_call I spans before w.bits w.passed
          (judging_done I.script words rooms spans 0 before.heights w.judging none_left)
          (concludes_passed w.instructions) every

    -- all chunks at once
    module _ {counted : Accepted} {marks records work : List ℕ}
        (w : OnTheWay counted 0 marks before.heights records work)
        {judgement : Result Sums Refused} {heights' records' work' : List ℕ}
        (j : Judges I.script (length records) (length work) spans 0 before.heights judgement heights' records' work')
      where
        pub all_fit : Fits (Ok counted) judgement
        unfolding Fits
        all_fit = go judgement j.answer
          where
            go : (o : Result Sums Refused)
                → o ≡ (judge_all I.script (length records) (length work) spans 0 0 0 before.heights).answer
                → Fits (Ok counted) o
            go (Ok more) q =
                let a = asked w in
                let few =
                few_all I.script (length records) (length work) a.ready spans 0 0 0 before.heights more (sym q) in (
                  omega (arith, few.0, w.judging.few_reached, a.few_chunks),
                  omega (arith, few.1, w.judging.few_taken, a.few_chunks),
                )
            go (Err failed) q = tt

        pub all_judged : {r : State} {marks' : List ℕ} → Advances (Ok counted) judgement marks r marks'
            → Calls I spans before (finished r) (holding marks' heights' records' work')
        all_judged a =
            judged_call I spans before w.bits w.passed (rw (as_many w, as_roomy w) at j)
            (concludes w.instructions (omega (arith, w.judging.few_reached)) (omega (arith, w.judging.few_taken)) a) every
