-- What is told and what marks hold at each way out: a refusal that leaves no mark, the starts, or marks untouched.
use mathlib.Core.List.{List, [], ◌∷◌}
use mathlib.Core.Option.{none}
use mathlib.Core.Path.{◌≡◌, refl, sym, ap, ◌∙◌}
use Prim.Native.Nat.{ℕ}
use lib.ListN.{length, replicate, length-replicate}
use Rattle.std.specs.Prelude.{Ok, Err}
use Rattle.listing.specs.Starts.{starts}
use Rattle.marks.specs.Marks.{marked_all}
use Rattle.marks.proofs.Laws.{length_all}
use Rattle.answer.specs.declared.Refusal.{Refusal}
use Rattle.answer.specs.Answer.{told}
use Rattle.before.specs.Before.{Test, first, before_stores, after_stores, marks_of}
use Rattle.before.specs.Calls.{Outcome, Settled, Prepared, ForChunks, left_by, marks_from, before_chunks}
use Rattle.before.specs.Input.{Input}
use Rattle.before.specs.Pass.{MarkedAll}
use Rattle.before.proofs.Tests.{goes_on, stops, last}

module _ (code : List ℕ) where
  -- what marks hold after an outcome, where they hold this where it passes
  settled : (n : ℕ) {test : Test} {r s : Outcome} {before after : List ℕ} → told r ≡ test → length before ≡ n
      → (told r ≡ none → before ≡ marks_of code none n) → Settled r before s after
      → Prepared test (marks_of code (told s) n) s after
  unfolding told marks_of left_by
  settled n {r = Ok passed} e l m p =
      rw p.same record { answer = e; marks = p.marks ∙ m refl }
  settled n {r = Err answer} e l m p =
      rw p.same record { answer = e; marks = p.marks ∙ ap (λ (k : ℕ). replicate k 0) l }

  -- all of the code, over marks that were cleared
  pub over_zeros : (n : ℕ) {test : Test} {r s : Outcome} {zeros marks after : List ℕ} → zeros ≡ replicate n 0
      → MarkedAll code test zeros r marks → Settled r marks s after → Prepared test (marks_of code (told s) n) s after
  unfolding marks_of
  over_zeros n z m p =
      settled n m.answer (m.long ∙ ap length z ∙ length-replicate n 0)
      (λ passed. m.marks passed ∙ ap (λ (words : List ℕ). marked_all words (starts code)) z) p

  -- a test that refuses leaves no mark
  pub refuses : {test : Test} (tests : List Test) {r s : Outcome} {answer : Refusal} {before after : List ℕ}
      → told r ≡ test → Settled r before (Err answer) after → s ≡ Err answer
      → Prepared (first (test ∷ tests)) (marks_of code (told s) (length before)) s after
  unfolding told marks_of left_by
  refuses tests {before = before} e p g =
      rw g record {
        answer = stops tests (ap told p.same ∙ e);
        marks = p.marks ∙ ap (λ (o : Outcome). left_by o before) (sym p.same);
      }

  -- one that passes leaves the answer to the others, and the marks as they were
  pub passes : {test : Test} (tests : List Test) {r s : Outcome} {before between after : List ℕ} → told r ≡ test
      → Settled r before (Ok tt) between
      → Prepared (first tests) (marks_of code (told s) (length between)) s after
      → Prepared (first (test ∷ tests)) (marks_of code (told s) (length before)) s after
  unfolding told left_by
  passes tests {s = s} {before = before} {between} e p rest =
      let same : between ≡ before = p.marks ∙ ap (λ (o : Outcome). left_by o before) (sym p.same) in
      record {
        answer = rest.answer ∙ goes_on tests (ap told p.same ∙ e);
        marks = rest.marks ∙ ap (λ (words : List ℕ). marks_of code (told s) (length words)) same;
      }

  module _ (n : ℕ) {test : Test} where
    -- the pass over the code refuses
    pub pass_refuses : (tests : List Test) {s : Outcome} {answer : Refusal} {after : List ℕ}
        → Prepared test (marks_of code (told (Err answer)) n) (Err answer) after → s ≡ Err answer
        → Prepared (first (test ∷ tests)) (marks_of code (told s) n) s after
    unfolding told
    pass_refuses tests p g = rw g record { answer = stops tests p.answer; marks = p.marks }

    -- it passes, and a last test decides
    pub pass_settled : {next : Test} {r s : Outcome} {between after : List ℕ}
        → Prepared test (marks_of code (told (Ok tt)) n) (Ok tt) between → told r ≡ next → Settled r between s after
        → Prepared (first (test ∷ next ∷ [])) (marks_of code (told s) n) s after
    unfolding told marks_of
    pass_settled {next} p e q =
        let done = settled n e (ap length p.marks ∙ length_all (replicate n 0) (starts code) ∙ length-replicate n 0)
        (λ passed. p.marks) q in
        record { answer = done.answer ∙ sym (last next) ∙ goes_on _ p.answer; marks = done.marks }

module _ (I : Input) (heights : ℕ) (before : List ℕ) where
  -- marks are untouched after a refusal before any store
  pub untouched : {s : Outcome} {answer : Refusal} → told (Err answer) ≡ before_stores I (length before) heights
      → s ≡ Err answer → ForChunks I heights before s before
  unfolding told marks_from before_chunks
  untouched e g =
      rw g record {
        answer = stops _ e;
        marks = ap (λ (early : Test). marks_from early (after_stores I) I.script.code before) e;
      }

  -- and otherwise hold what the later tests leave
  pub touched : {s : Outcome} {after : List ℕ} → told (Ok tt) ≡ before_stores I (length before) heights
      → Prepared (after_stores I) (marks_of I.script.code (told s) (length before)) s after
      → ForChunks I heights before s after
  unfolding told marks_from before_chunks
  touched {s} e p = record {
    answer = p.answer ∙ sym (last _) ∙ goes_on _ e;
    marks =
        p.marks ∙ ap (λ (late : Test). marks_of I.script.code late (length before)) p.answer
        ∙ ap (λ (early : Test). marks_from early (after_stores I) I.script.code before) e;
  }
