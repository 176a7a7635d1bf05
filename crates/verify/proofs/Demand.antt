-- The customer's third demand, of the whole call, over any verdict and memory that meet its contract. It is accepted
-- exactly when everything before the chunks passes and each chunk opens and can be written, and refused exactly when
-- not. A refusal that names a chunk says that those before it are sound and why this one is not, with its very
-- numbers. A chunk that the call comes to is refused for its walk exactly when it cannot be written. Heights are
-- measured as far as the call comes. And the contract allows one outcome.
use mathlib.Core.List.{List}
use mathlib.Core.Logic.{inl, inr, ◌↔◌}
use mathlib.Core.Option.{none, some}
use mathlib.Core.Path.{◌≡◌, refl, sym, ap, subst, ◌∙◌}
use Prim.Native.Nat.{ℕ, ◌<◌}
use native.Mathlib.Omega.{arith}
use lib.ListN.{length}
use Rattle.before.specs.Before.{Test, before_stores, after_stores}
use Rattle.before.specs.Input.{Input}
use Rattle.answer.specs.Answer.{no_chunk, refused}
use Rattle.pools.proofs.LimitLaws.{chunks_kept}
use Rattle.demand.specs.Chunk.{passes, fails}
use Rattle.demand.specs.Chunk as chunk
use Rattle.answer.specs.declared.Refusal.{Refusal}
use Rattle.answer.specs.declared.verdict.Verdict.{Verdict}
use Rattle.demand.specs.Span.{Span, chunk_at}
use Rattle.demand.specs.Writing.{Writing}
use Rattle.answer.proofs.Apart.{zero≢one}
use Rattle.verify.specs.Call.{Memory, after_late_tests, after_early_tests, result, Calls}
use Rattle.verify.specs.Demand.{OpeningKind, WalkKind, ComesToChunks, OpensAt, ShutAt, FailsWalkAt, FailsAt, Good}
use Rattle.verify.specs.Demand.{Acceptable, RefusedFor, Fills}
use Rattle.verify.proofs.Accounts.{judged_at, passes_at, Ways, all_pass, one_fails, ways, known, PassesIn}
use Rattle.verify.proofs.Accounts.{refuses, fills_before, accepts_kind, accepts_chunk, fills_all, all_passed}
use Rattle.verify.proofs.Accounts.{accounted}
use Rattle.verify.proofs.Chunks.{passes_opens, passes_written, written_passes, fails_really, fails_for}
use Rattle.verify.proofs.Chunks.{fails_refuses}
use Rattle.verify.proofs.Sorts.{early_kind, late_kind, shut_kind, real_kind, walk_refuses, kinds_apart}

module _ (I : Input) (spans : List Span) (before : Memory) where
  abbrev records : ℕ
  records = length before.records

  abbrev work : ℕ
  work = length before.work

  -- ---- how far a call comes

  -- all tests before the chunks pass, or the verdict is a refusal that names no chunk, and heights stay as they were
  data Comes : Type 0 where
    to_chunks : ComesToChunks I before → Comes
    no_further : ¬ ComesToChunks I before → 0 < (result I spans before).verdict.kind
        → (result I spans before).verdict.chunk ≡ no_chunk
        → (result I spans before).memory.heights ≡ before.heights → Comes

  comes : Comes
  unfolding after_early_tests after_late_tests
  comes = go (before_stores I (length before.marks) (length before.heights)) refl (after_stores I) refl
    where
      go : (x : Test) → before_stores I (length before.marks) (length before.heights) ≡ x
          → (y : Test) → after_stores I ≡ y → Comes
      go none p none q = to_chunks (record { early = p; late = q })
      go none p (some a) q =
          let k = late_kind _ _ _ _ _ _ q in
          no_further (λ b. zero≢one (cc (b.late, q))) (rw (p, q) (omega (arith, k.0))) (rw (p, q) k.1)
          (rw (p, q) refl)
      go (some a) p y q =
          let k = early_kind _ _ _ _ _ _ _ _ p in
          no_further (λ b. zero≢one (cc (b.early, p))) (rw p k.0) (rw p k.2) (rw p refl)

  -- what the definition comes to
  abbrev verdict : Verdict
  verdict = (result I spans before).verdict

  abbrev heights : List ℕ
  heights = (result I spans before).memory.heights

  -- an acceptance is of a call that comes to its chunks
  begins : verdict.kind ≡ 0 → ComesToChunks I before
  begins z = go comes
    where
      go : Comes → ComesToChunks I before
      go (to_chunks b) = b
      go (no_further n k c h) = absurd (omega (arith, k, z))

  -- after it a chunk passes exactly if it opens and can be written
  module _ (b : ComesToChunks I before) (i : ℕ) where
    good_passes : Good I spans before i → PassesIn I spans before i
    good_passes g =
        passes_at I.script records work spans i
        (written_passes I (known I spans before b) (chunk_at spans i) records work g.opens g.written).so

    passes_good : PassesIn I spans before i → Good I spans before i
    passes_good e = record {
      opens = passes_opens I.script (chunk_at spans i) records work e;
      written = passes_written I (known I spans before b) (chunk_at spans i) records work e;
    }

  -- where the first chunk fails, the verdict refuses it
  abbrev Refused : ℕ → Type 0
  Refused i = RefusedFor I spans before i (FailsAt I spans before i) verdict

  refuses_first : ComesToChunks I before → (i : ℕ) {a : Refusal} → i < length spans
      → ((j : ℕ) → j < i → PassesIn I spans before j) → judged_at I.script records work spans i ≡ fails a → Refused i
  refuses_first b i {a} l p e = record {
    begins = b;
    there = l;
    sound_before = λ j k. passes_good b j (p j k);
    answer = a;
    numbers = refuses I spans before b i l p e;
    reason = fails_for I (known I spans before b) (chunk_at spans i) records work e;
  }

  -- another reason for the same refusal, where the verdict's numbers give it
  because : {i : ℕ} {Reason Other : Refusal → Type 0} {r : Verdict} → RefusedFor I spans before i Reason r
      → ((a : Refusal) → r ≡ refused i a → Reason a → Other a) → RefusedFor I spans before i Other r
  because x gives = record {
    begins = x.begins;
    there = x.there;
    sound_before = x.sound_before;
    answer = x.answer;
    numbers = x.numbers;
    reason = gives x.answer x.numbers x.reason;
  }

  -- ---- whatever meets the contract

  module _ {r : Verdict} {after : Memory} (c : Calls I spans before r after) where
    -- "It is accepted exactly when [...]."
    pub accepted_exactly : r.kind ≡ 0 ↔ Acceptable I spans before
    accepted_exactly =
        rw c.verdict (
          λ z. record {
            begins = begins z;
            chunks = λ i l. passes_good (begins z) i (all_passed I spans before (begins z) z i l);
          },
          λ a. accepts_kind I spans before a.begins (λ i l. good_passes a.begins i (a.chunks i l)),
        )

    -- And it is refused exactly when not.
    pub refused_exactly : ¬ (r.kind ≡ 0) ↔ ¬ Acceptable I spans before
    refused_exactly = (λ refused a. refused (accepted_exactly.1 a), λ bad z. bad (accepted_exactly.0 z))

    -- A refusal that names a chunk: those before it are sound, and this one does not open, or opens and fails its walk.
    pub refused_chunk : ¬ (r.chunk ≡ no_chunk)
        → RefusedFor I spans before r.chunk (FailsAt I spans before r.chunk) r
    refused_chunk named = rw c.verdict (go comes)
      where
        named_so : ¬ (verdict.chunk ≡ no_chunk)
        named_so = rw c.verdict at named

        by_chunks : ComesToChunks I before → Ways I.script records work spans (length spans)
            → Refused verdict.chunk
        by_chunks b (all_pass p) = absurd (named_so (accepts_chunk I spans before b p))
        by_chunks b (one_fails i a l p e) =
            let told = ap (λ (v : Verdict). v.chunk) (refuses I spans before b i l p e) in
            let own = (fails_refuses I (known I spans before b) (chunk_at spans i) records work e i).1 in
            subst Refused (sym (told ∙ own)) (refuses_first b i l p e)

        go : Comes → Refused verdict.chunk
        go (to_chunks b) = by_chunks b (ways I.script records work spans (length spans))
        go (no_further n k none_named h) = absurd (named_so none_named)

    -- Every refusal of a call that comes to its chunks names one.
    pub chunk_named : I.chunks ≡ length spans → ComesToChunks I before → ¬ (r.kind ≡ 0) → ¬ (r.chunk ≡ no_chunk)
    chunk_named same b refused = rw c.verdict (go (ways I.script records work spans (length spans)))
      where
        go : Ways I.script records work spans (length spans) → ¬ (verdict.chunk ≡ no_chunk)
        go (all_pass p) q = refused (ap (λ (v : Verdict). v.kind) c.verdict ∙ accepts_kind I spans before b p)
        go (one_fails i a l p e) q =
            omega (
              arith,
              q,
              ap (λ (v : Verdict). v.chunk) (refuses I spans before b i l p e),
              (fails_refuses I (known I spans before b) (chunk_at spans i) records work e i).1,
              chunks_kept (known I spans before b).kept,
            )

    -- Which of the two, its kind tells. By 3, 7 and 8 it does not open, and this test of its own is the first to fail.
    pub refused_unopened : ¬ (r.chunk ≡ no_chunk) → OpeningKind r.kind
        → RefusedFor I spans before r.chunk (ShutAt I spans before r.chunk) r
    refused_unopened named kind = because (refused_chunk named) (λ a e. go e)
      where
        go : {a : Refusal} → r ≡ refused r.chunk a → FailsAt I spans before r.chunk a
            → ShutAt I spans before r.chunk a
        go e (inl s) = s
        go e (inr f) =
            let of-walk = (real_kind I.script (chunk_at spans r.chunk) f.real r.chunk).0 in
            absurd (kinds_apart (subst OpeningKind (ap (λ (v : Verdict). v.kind) e) kind) of-walk)

    -- By 4 and 9 to 16 it opens, and what refuses it is real.
    pub refused_walk : ¬ (r.chunk ≡ no_chunk) → WalkKind r.kind
        → RefusedFor I spans before r.chunk (FailsWalkAt I spans before r.chunk) r
    refused_walk named kind = because (refused_chunk named) (λ a e. go e)
      where
        go : {a : Refusal} → r ≡ refused r.chunk a → FailsAt I spans before r.chunk a
            → FailsWalkAt I spans before r.chunk a
        go e (inl s) =
            let of-opening = (shut_kind I.script (chunk_at spans r.chunk) s r.chunk).0 in
            absurd (kinds_apart of-opening (subst WalkKind (ap (λ (v : Verdict). v.kind) e) kind))
        go e (inr f) = f

    -- Of a chunk that opens, where those before it are sound: it is refused for its walk exactly when it cannot be
    -- written.
    module _ (b : ComesToChunks I before) (i : ℕ) (l : i < length spans)
        (good : (j : ℕ) → j < i → Good I spans before j) (o : OpensAt I spans before i) where
      unwritten_refused : (x : chunk.Judged) → judged_at I.script records work spans i ≡ x
          → ¬ Writing I.script (chunk_at spans i) → RefusedFor I spans before i (FailsWalkAt I spans before i) r
      unwritten_refused (passes h n t) e none_written =
          absurd (none_written (passes_written I (known I spans before b) (chunk_at spans i) records work e))
      unwritten_refused (fails a) e none_written = record {
        begins = b;
        there = l;
        sound_before = good;
        answer = a;
        numbers = c.verdict ∙ refuses I spans before b i l (λ j k. good_passes b j (good j k)) e;
        reason = record {
          opens = o;
          real = fails_really I (known I spans before b) (chunk_at spans i) records work o e;
        };
      }

      -- a verdict that names this chunk comes from no other
      refused_unwritten : RefusedFor I spans before i (FailsWalkAt I spans before i) r
          → ¬ Writing I.script (chunk_at spans i)
      refused_unwritten x w = go (ways I.script records work spans (length spans))
        where
          told : refused i x.answer ≡ verdict
          told = sym x.numbers ∙ c.verdict

          kind : WalkKind (refused i x.answer).kind × ((refused i x.answer).chunk ≡ i)
          kind = real_kind I.script (chunk_at spans i) x.reason.real i

          go : Ways I.script records work spans (length spans) → ⊥
          go (all_pass p) =
              omega (arith, accepts_kind I spans before b p, ap (λ (v : Verdict). v.kind) told, walk_refuses kind.0)
          go (one_fails n a k p e) =
              let own = (fails_refuses I (known I spans before b) (chunk_at spans n) records work e n).1 in
              let named = ap (λ (v : Verdict). v.chunk) (refuses I spans before b n k p e) in
              let same : n ≡ i = sym own ∙ sym named ∙ sym (ap (λ (v : Verdict). v.chunk) told) ∙ kind.1 in
              zero≢one (cc (same, good_passes b i (record { opens = o; written = w }), e))

      pub chunk_refused_exactly : RefusedFor I spans before i (FailsWalkAt I spans before i) r
          ↔ (¬ Writing I.script (chunk_at spans i))
      chunk_refused_exactly = (refused_unwritten, unwritten_refused (judged_at I.script records work spans i) refl)

    -- Heights are what document 01 says, for every call that comes to its chunks.
    pub heights_filled : I.chunks ≡ length spans → ComesToChunks I before → Fills I spans before r after.heights
    heights_filled same b = rw (c.verdict, c.memory) (go (ways I.script records work spans (length spans)))
      where
        go : Ways I.script records work spans (length spans) → Fills I spans before verdict heights
        go (all_pass p) = record {
          accepting = λ z. fills_all I spans before b p same;
          refusing = λ n. absurd (n (accepts_kind I spans before b p));
        }
        go (one_fails i a l p e) =
            let v = refuses I spans before b i l p e in
            let kind = fails_refuses I (known I spans before b) (chunk_at spans i) records work e i in
            let number : i ≡ verdict.chunk = sym (ap (λ (x : Verdict). x.chunk) v ∙ kind.1) in
            record {
              accepting = λ z. absurd (omega (arith, z, ap (λ (x : Verdict). x.kind) v, kind.0));
              refusing = λ n. rw (← number) (fills_before I spans before b same i l p e);
            }

    -- A call that does not come to its chunks leaves them as they were.
    pub heights_kept : ¬ ComesToChunks I before → after.heights ≡ before.heights
    heights_kept n = rw c.memory (go comes)
      where
        go : Comes → heights ≡ before.heights
        go (to_chunks b) = absurd (n b)
        go (no_further m k none_named h) = h

  -- The contract allows one outcome, and there is one.
  pub one_outcome : {r r' : Verdict} {after after' : Memory} → Calls I spans before r after
      → Calls I spans before r' after' → (r ≡ r') × (after ≡ after')
  one_outcome c d = (c.verdict ∙ sym d.verdict, c.memory ∙ sym d.memory)

  pub an_outcome : I.chunks ≡ length spans → Calls I spans before verdict (result I spans before).memory
  an_outcome same = record { verdict = refl; memory = refl; accepted = λ z. accounted I spans before (begins z) same z }
