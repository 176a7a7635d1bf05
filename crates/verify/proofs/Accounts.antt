-- The chunks judged one after the other, by their numbers: how far all of them pass, what that leaves in heights and in the sums, and
-- where the first fails; and that the paths of the chunks fix these sums.
use mathlib.Core.Bool.{Bool, true, false}
use mathlib.Core.List.{List}
use mathlib.Core.Option.{none}
use mathlib.Core.Path.{◌≡◌, refl, sym, ap, subst, ◌∙◌}
use Prim.Native.Nat.{ℕ, zero, suc, ◌+◌, ◌≤◌, ◌<◌}
use Rattle.std.specs.Prelude.{Result, Ok, Err}
use native.Mathlib.Nat.{not-suc-le-zero}
use native.Mathlib.Omega.{arith}
use borrow.Author.Tests.{ltb-true, ltb-false}
use lib.Dec.{ltb}
use lib.ListN.{length, get_or, set, drop, length-set, drop_of_length-le}
use lib.Seq.{get_or-set_same, get_or-set_other}
use Rattle.before.specs.Before.{first}
use Rattle.before.specs.Calls.{before_chunks}
use Rattle.before.specs.Input.{Input}
use Rattle.before.specs.Calls.{marks_from}
use Rattle.before.proofs.Established.{Established, established, room, marks_count}
use Rattle.listing.specs.Starts.{starts}
use Rattle.marks.specs.Marks.{total}
use Rattle.answer.specs.Answer.{no_chunk, numbered, refused}
use Rattle.demand.specs.Chunk.{passes, fails, judge_chunk}
use Rattle.demand.specs.Chunk as chunk
use Rattle.answer.specs.declared.Refusal.{Refusal}
use Rattle.answer.specs.declared.Accepted.{Accepted}
use Rattle.answer.specs.declared.verdict.Verdict.{Verdict}
use Rattle.rules.specs.Script.{Script}
use Rattle.demand.specs.Span.{Span, chunk_at}
use Rattle.verify.specs.Accounts.{sum_below, Measured, Filled, Accounted}
use Rattle.verify.specs.Call.{Memory, verdict_on, start_bits, after_chunks, after_late_tests, after_early_tests, result}
use Rattle.verify.specs.Demand.{ComesToChunks}
use Rattle.judging.specs.Judging.{JudgedAll, judge_all}
use Rattle.judging.specs.declared.Refused.{Refused}
use Rattle.judging.specs.declared.Sums.{Sums}
use Rattle.judging.proofs.Chain.{chunk_next, judge_none, judge_passes, judge_fails}
use Rattle.verify.proofs.Chunks.{passes_written, passes_measures, fails_refuses, measured_once}

-- the numbers of a chunk that passes
unfoldable pub height_of : chunk.Judged → ℕ
height_of (passes h r t) = h
height_of (fails a) = 0

unfoldable pub reached_of : chunk.Judged → ℕ
reached_of (passes h r t) = r
reached_of (fails a) = 0

unfoldable pub taken_of : chunk.Judged → ℕ
taken_of (passes h r t) = t
taken_of (fails a) = 0

module _ (S : Script) (records work : ℕ) (spans : List Span) where
  abbrev pub judged_at : ℕ → chunk.Judged
  judged_at i = judge_chunk S (chunk_at spans i) records work

  abbrev pub height_at : ℕ → ℕ
  height_at i = height_of (judged_at i)

  abbrev pub reached_at : ℕ → ℕ
  reached_at i = reached_of (judged_at i)

  abbrev pub taken_at : ℕ → ℕ
  taken_at i = taken_of (judged_at i)

  abbrev pub PassesAt : ℕ → Type 0
  PassesAt i = judged_at i ≡ passes (height_at i) (reached_at i) (taken_at i)

  pub passes_at : (i : ℕ) {h r t : ℕ} → judged_at i ≡ passes h r t → PassesAt i
  unfolding height_of reached_of taken_of
  passes_at i e = rw e refl

  -- ---- all below a number pass, or there is a first that fails

  pub data Ways (n : ℕ) : Type 0 where
    all_pass : ((i : ℕ) → i < n → PassesAt i) → Ways n
    one_fails : (i : ℕ) (a : Refusal) → i < n → ((j : ℕ) → j < i → PassesAt j) → judged_at i ≡ fails a → Ways n

  pub ways : (n : ℕ) → Ways n
  ways zero = all_pass (λ i l. absurd (not-suc-le-zero l))
  ways (suc n) = next (ways n)
    where
      next : Ways n → Ways (suc n)
      next (one_fails i a l p e) = one_fails i a (omega arith) p e
      next (all_pass p) = go (judged_at n) refl
        where
          go : (o : chunk.Judged) → judged_at n ≡ o → Ways (suc n)
          go (fails a) e = one_fails n a (omega arith) p e
          go (passes h r t) e = all_pass (λ i l. up_to i l (ltb i n) refl)
            where
              up_to : (i : ℕ) → i < suc n → (b : Bool) → ltb i n ≡ b → PassesAt i
              up_to i l true q = p i (ltb-true i n q)
              up_to i l false q = let same : n ≡ i = omega (arith, ltb-false i n q) in subst PassesAt same (passes_at n e)

  -- ---- where all below a number pass: their heights, their sums, and what is left to judge

  module _ (before : List ℕ) where
    record Sofar (n : ℕ) : Type 0 where
      heights : List ℕ
      rest : judge_all S records work (drop n spans) n (sum_below reached_at n) (sum_below taken_at n) heights ≡ judge_all S records work spans 0 0 0 before
      long : length heights ≡ length before
      held : (i : ℕ) → i < n → i < length before → get_or heights i 0 ≡ height_at i
      kept : (i : ℕ) → n ≤ i → get_or heights i 0 ≡ get_or before i 0

    sofar : (n : ℕ) → n ≤ length spans → ((i : ℕ) → i < n → PassesAt i) → Sofar n
    unfolding sum_below
    sofar zero h p = record { heights = before; rest = refl; long = refl; held = λ i l. absurd (not-suc-le-zero l); kept = λ i l. refl }
    sofar (suc n) h p = next (sofar n (omega arith) (λ i l. p i (omega arith)))
      where
        next : Sofar n → Sofar (suc n)
        next s = record {
          heights = set s.heights n (height_at n);
          rest = rw one_more at on;
          long = length-set s.heights n (height_at n) ∙ s.long;
          held = held;
          kept = λ i l. get_or-set_other s.heights n i _ 0 (λ e. omega arith) ∙ s.kept i (omega arith);
        }
          where
            one_more : n + 1 ≡ suc n
            one_more = omega arith

            on : judge_all S records work (drop (suc n) spans) (n + 1) (sum_below reached_at n + reached_at n) (sum_below taken_at n + taken_at n) (set s.heights n (height_at n))
                ≡ judge_all S records work spans 0 0 0 before
            on =
                sym (judge_passes S records work (chunk_at spans n) (drop (suc n) spans) n (sum_below reached_at n) (sum_below taken_at n) s.heights (p n (omega arith)))
                ∙ rw (← chunk_next spans n h) s.rest

            held : (i : ℕ) → i < suc n → i < length before → get_or (set s.heights n (height_at n)) i 0 ≡ height_at i
            held i l w = go (ltb i n) refl
              where
                go : (b : Bool) → ltb i n ≡ b → get_or (set s.heights n (height_at n)) i 0 ≡ height_at i
                go true q = get_or-set_other s.heights n i _ 0 (λ e. omega (arith, ltb-true i n q)) ∙ s.held i (ltb-true i n q) w
                go false q =
                    let same : n ≡ i = omega (arith, ltb-false i n q) in
                    subst (λ (k : ℕ). get_or (set s.heights n (height_at n)) k 0 ≡ height_at k) same (get_or-set_same s.heights n _ 0 (omega (arith, s.long)))

    -- the chunks below a number pass, and this is the answer
    pub record JudgedTo (n : ℕ) (answer : Result Sums Refused) : Type 0 where
      pub heights : List ℕ
      pub so : judge_all S records work spans 0 0 0 before ≡ record { answer = answer; heights = heights }
      pub long : length heights ≡ length before
      pub held : (i : ℕ) → i < n → i < length before → get_or heights i 0 ≡ height_at i
      pub kept : (i : ℕ) → n ≤ i → get_or heights i 0 ≡ get_or before i 0

    to : {n : ℕ} {answer : Result Sums Refused} (s : Sofar n)
        → judge_all S records work (drop n spans) n (sum_below reached_at n) (sum_below taken_at n) s.heights ≡ record { answer = answer; heights = s.heights }
        → JudgedTo n answer
    to s ends = record { heights = s.heights; so = sym s.rest ∙ ends; long = s.long; held = s.held; kept = s.kept }

    pub judged_passes : ((i : ℕ) → i < length spans → PassesAt i)
        → JudgedTo (length spans) (Ok (record { reached = sum_below reached_at (length spans); taken = sum_below taken_at (length spans) }))
    judged_passes p =
        to (sofar (length spans) (omega arith) p) (rw (drop_of_length-le spans {i = length spans} (omega arith)) (judge_none S records work _ _ _ _))

    pub judged_fails : (i : ℕ) {a : Refusal} → i < length spans → ((j : ℕ) → j < i → PassesAt j) → judged_at i ≡ fails a → JudgedTo i (Err (record { chunk = i; refusal = a }))
    judged_fails i {a} l p e =
        let s = sofar i (omega arith) p in
        to s (rw (chunk_next spans i l) (judge_fails S records work (chunk_at spans i) (drop (suc i) spans) i (sum_below reached_at i) (sum_below taken_at i) s.heights e))

-- ---- a call that comes to its chunks

module _ (I : Input) (spans : List Span) (before : Memory) where
  abbrev records : ℕ
  records = length before.records

  abbrev work : ℕ
  work = length before.work

  abbrev pub PassesIn : ℕ → Type 0
  PassesIn = PassesAt I.script records work spans

  abbrev judged : JudgedAll
  judged = judge_all I.script records work spans 0 0 0 before.heights

  module _ (b : ComesToChunks I before) where
    begun : before_chunks I (length before.marks) (length before.heights) ≡ none
    unfolding before_chunks first
    begun = rw (b.early, b.late) refl

    pub known : Established I
    known = established I _ _ begun

    counted : total (start_bits I spans before) ≡ length (starts I.script.code)
    unfolding marks_from
    counted = rw (b.early, b.late) at (marks_count I (length before.heights) before.marks begun)

    judges : result I spans before ≡ after_chunks I spans before judged
    unfolding after_early_tests after_late_tests
    judges = rw (b.early, b.late) refl

    -- as far as chunks pass, their heights are measured
    keeps_heights : {n : ℕ} {answer : Result Sums Refused} (j : JudgedTo I.script records work spans before.heights n answer)
        → (result I spans before).memory.heights ≡ j.heights
    unfolding after_chunks
    keeps_heights j = rw (judges, j.so) refl

    measures : I.chunks ≡ length spans → {n : ℕ} {answer : Result Sums Refused}
        (j : JudgedTo I.script records work spans before.heights n answer) → n ≤ length spans
        → ((i : ℕ) → i < n → PassesIn i) → Measured I.script spans n (result I spans before).memory.heights
    measures same j few p = record {
      reached_in = reached_at I.script records work spans;
      taken_in = taken_at I.script records work spans;
      by_paths = λ i l.
          rw (keeps_heights j, j.held i l (omega (arith, (room I _ _ begun).heights_lent, same, few)))
          (passes_measures I known (chunk_at spans i) records work (p i l));
    }

    fills : I.chunks ≡ length spans → {n : ℕ} {answer : Result Sums Refused} (j : JudgedTo I.script records work spans before.heights n answer)
        → n ≤ length spans → ((i : ℕ) → i < n → PassesIn i) → Filled I.script spans n before.heights (result I spans before).memory.heights
    fills same j few p = record {
      measured = measures same j few p;
      untouched = rw (keeps_heights j) j.kept;
      as_many = rw (keeps_heights j) j.long;
    }

    -- where a chunk fails after others that pass, it is refused
    pub refuses : (i : ℕ) {a : Refusal} → i < length spans → ((j : ℕ) → j < i → PassesIn j) → judged_at I.script records work spans i ≡ fails a
        → (result I spans before).verdict ≡ refused i a
    unfolding after_chunks verdict_on
    refuses i l p e = rw (judges, (judged_fails I.script records work spans before.heights i l p e).so) refl

    -- and the heights of those before it are measured
    pub fills_before : I.chunks ≡ length spans → (i : ℕ) {a : Refusal} → i < length spans → ((j : ℕ) → j < i → PassesIn j)
        → judged_at I.script records work spans i ≡ fails a → Filled I.script spans i before.heights (result I spans before).memory.heights
    fills_before same i l p e = fills same (judged_fails I.script records work spans before.heights i l p e) (omega arith) p

    -- where all pass, it is accepted
    module _ (p : (i : ℕ) → i < length spans → PassesIn i) where
      abbrev sums : Sums
      sums = record {
        reached = sum_below (reached_at I.script records work spans) (length spans);
        taken = sum_below (taken_at I.script records work spans) (length spans);
      }

      abbrev counts : Accepted
      counts = record { instructions = total (start_bits I spans before); reached = sums.reached; taken = sums.taken }

      all : JudgedTo I.script records work spans before.heights (length spans) (Ok sums)
      all = judged_passes I.script records work spans before.heights p

      accepts : (result I spans before).verdict ≡ numbered no_chunk (Ok counts)
      unfolding after_chunks verdict_on
      accepts = rw (judges, all.so) refl

      pub accepts_kind : (result I spans before).verdict.kind ≡ 0
      unfolding numbered
      accepts_kind = ap (λ (v : Verdict). v.kind) accepts

      pub accepts_chunk : (result I spans before).verdict.chunk ≡ no_chunk
      unfolding numbered
      accepts_chunk = ap (λ (v : Verdict). v.chunk) accepts

      pub fills_all : I.chunks ≡ length spans → Filled I.script spans (length spans) before.heights (result I spans before).memory.heights
      fills_all same = fills same all (omega arith) p

      accounts : I.chunks ≡ length spans → Accounted I.script spans (result I spans before).memory.heights (result I spans before).verdict
      unfolding numbered measures
      accounts same = record {
        written = λ i l. passes_written I known (chunk_at spans i) records work (p i l);
        measured = measures same all (omega arith) p;
        instructions = ap (λ (v : Verdict). v.instructions) accepts ∙ counted;
        reached = ap (λ (v : Verdict). v.reached) accepts;
        taken = ap (λ (v : Verdict). v.taken) accepts;
      }

    -- and only there
    pub all_passed : (result I spans before).verdict.kind ≡ 0 → (i : ℕ) → i < length spans → PassesIn i
    all_passed z = go (ways I.script records work spans (length spans))
      where
        go : Ways I.script records work spans (length spans) → (i : ℕ) → i < length spans → PassesIn i
        go (all_pass p) = p
        go (one_fails i a l p e) =
            absurd (omega (arith, z, ap (λ (v : Verdict). v.kind) (refuses i l p e), (fails_refuses I known (chunk_at spans i) records work e i).0))

    -- an acceptance answers for every chunk
    pub accounted : I.chunks ≡ length spans → (result I spans before).verdict.kind ≡ 0
        → Accounted I.script spans (result I spans before).memory.heights (result I spans before).verdict
    accounted same z = accounts (all_passed z) same

-- ---- the sums are fixed by the paths

same_below : (f g : ℕ → ℕ) (n : ℕ) → ((i : ℕ) → i < n → f i ≡ g i) → sum_below f n ≡ sum_below g n
unfolding sum_below
same_below f g zero same = refl
same_below f g (suc n) same = rw (same_below f g n (λ i l. same i (omega arith)), same n (omega arith)) refl

-- whatever measures these chunks has the same sums
module _ {S : Script} {spans : List Span} {n : ℕ} {heights heights' : List ℕ}
    (m : Measured S spans n heights) (m' : Measured S spans n heights') where
  pub reached_once : sum_below m.reached_in n ≡ sum_below m'.reached_in n
  reached_once = same_below _ _ n (λ i l. (measured_once (m.by_paths i l) (m'.by_paths i l)).same_reached)

  pub taken_once : sum_below m.taken_in n ≡ sum_below m'.taken_in n
  taken_once = same_below _ _ n (λ i l. (measured_once (m.by_paths i l) (m'.by_paths i l)).same_taken)
