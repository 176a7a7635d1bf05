-- No fraud of document 01 meets the contract of the whole call: for each but the last there is an input on which
-- whatever meets it differs from what the fraud gives, and counts are those of paths on every input.
use mathlib.Core.List.{List, [], ◌∷◌, ◌++◌}
use mathlib.Core.Path.{◌≡◌, refl, ap, ◌∙◌}
use Prim.Native.Nat.{ℕ}
use native.Mathlib.Omega.{arith}
use lib.ListN.{get_or}
use Rattle.bench.proofs.Bench.{answers}
use Rattle.bench.specs.Bench.{BenchRow, asked_by, answered, documented, bench, lent, part, p1, p6, two, spoiled}
use Rattle.bench.specs.Frauds.{CallsOn, ChangesAll, OtherCounts, of_instructions, of_reached, of_taken, Verifier}
use Rattle.bench.specs.Frauds.{Meets, RefusesEverything, OneHeight, StoresNothing, FirstOnly, in_kinds}
use Rattle.bench.specs.Frauds.{in_heights, Invents}
use Rattle.before.specs.Input.{Input}
use Rattle.answer.specs.declared.verdict.Verdict.{Verdict}
use Rattle.machine.specs.Lists.{◌∈◌, here, there}
use Rattle.demand.specs.Span.{Span}
use Rattle.verify.specs.Accounts.{Accounted}
use Rattle.verify.specs.Call.{Memory, result, Calls}
use Rattle.verify.proofs.Accounts.{reached_once, taken_once}
use Rattle.verify.proofs.Demand.{an_outcome}

-- ---- what comes of a row of the table

module _ (row : BenchRow) (m : row ∈ bench) {r : Verdict} {after : Memory} (c : CallsOn row r after) where
  verdict : r ≡ row.outcome.verdict
  unfolding answered
  verdict = c.verdict ∙ ap (λ o. o.verdict) (answers row m)

  memory : after ≡ row.outcome.memory
  unfolding answered
  memory = c.memory ∙ ap (λ o. o.memory) (answers row m)

  -- a number of the verdict; an element of a buffer
  told : (f : Verdict → ℕ) → f r ≡ f row.outcome.verdict
  told f = ap f verdict

  holds : (f : Memory → List ℕ) (k : ℕ) → get_or (f after) k 0 ≡ get_or (f row.outcome.memory) k 0
  holds f k = ap (λ (m : Memory). get_or (f m) k 0) memory

-- two buffers that are equal have the same element
same : {l l' : List ℕ} (k : ℕ) → l ≡ l' → get_or l k 0 ≡ get_or l' k 0
same k e = ap (λ (l : List ℕ). get_or l k 0) e

-- the rows in question are in the table
behind : {A : Type 0} {x : A} (xs : List A) {ys : List A} → x ∈ ys → x ∈ (xs ++ ys)
behind [] m = m
behind (y ∷ xs) m = there (behind xs m)

p1_there : p1 ∈ bench
p1_there = here refl

p6_there : p6 ∈ bench
p6_there = there (there (there (there (there (here refl)))))

two_there : two ∈ bench
two_there = behind documented (here refl)

spoiled_there : spoiled ∈ bench
spoiled_there = behind documented (there (here refl))

-- ---- on which rows the frauds show

-- P1 and P6 are accepted; P1 has the height 1, and P6 has 0
pub p1_accepted : {r : Verdict} {after : Memory} → CallsOn p1 r after → r.kind ≡ 0
p1_accepted c = told p1 p1_there c (λ v. v.kind)

pub p6_accepted : {r : Verdict} {after : Memory} → CallsOn p6 r after → r.kind ≡ 0
p6_accepted c = told p6 p6_there c (λ v. v.kind)

pub p1_height : {r : Verdict} {after : Memory} → CallsOn p1 r after → get_or after.heights 0 0 ≡ 1
p1_height c = holds p1 p1_there c (λ m. m.heights) 0

pub p6_height : {r : Verdict} {after : Memory} → CallsOn p6 r after → get_or after.heights 0 0 ≡ 0
p6_height c = holds p6 p6_there c (λ m. m.heights) 0

-- P1 changes every buffer: an element of each shows it
pub p1_changes : {r : Verdict} {after : Memory} → CallsOn p1 r after → ChangesAll lent after
p1_changes c = record {
  marks = λ e. omega (arith, same 1 e, holds p1 p1_there c (λ m. m.marks) 1);
  heights = λ e. omega (arith, same 0 e, holds p1 p1_there c (λ m. m.heights) 0);
  records = λ e. omega (arith, same 0 e, holds p1 p1_there c (λ m. m.records) 0);
  work = λ e. omega (arith, same 0 e, holds p1 p1_there c (λ m. m.work) 0);
}

-- the second of two chunks has its own height; and where it is bad, it is refused under its own number
pub second_height : {r : Verdict} {after : Memory} → CallsOn two r after → get_or after.heights 1 0 ≡ 2
second_height c = holds two two_there c (λ m. m.heights) 1

pub second_refused : {r : Verdict} {after : Memory} → CallsOn spoiled r after → (r.kind ≡ 12) × (r.chunk ≡ 1)
second_refused c = (told spoiled spoiled_there c (λ v. v.kind), told spoiled spoiled_there c (λ v. v.chunk))

-- on any input the counts of an acceptance are those of the code and of its paths
pub counts_by_paths : {I : Input} {spans : List Span} {before : Memory} {r : Verdict} {after : Memory}
    → Calls I spans before r after → r.kind ≡ 0 → ¬ OtherCounts I.script spans r
counts_by_paths {I} {spans} {before} {r} {after} c z = go
  where
    counts : Accounted I.script spans after.heights r
    counts = c.accepted z

    go : ¬ OtherCounts I.script spans r
    go (of_instructions other) = other counts.instructions
    go (of_reached m other) = other (counts.reached ∙ reached_once counts.measured m)
    go (of_taken m other) = other (counts.taken ∙ taken_once counts.measured m)

-- ---- the five

-- the contract can be met: by the definition itself
pub definition_meets : Meets (λ I spans before. result I spans before)
definition_meets I spans before every = an_outcome I spans before every

module _ (ask : Verifier) (meets : Meets ask) where
  on : (row : BenchRow) → CallsOn row (ask (asked_by row) row.spans lent).verdict (ask (asked_by row) row.spans lent).memory
  on row = meets (asked_by row) row.spans lent refl

  pub never_refuses_everything : ¬ RefusesEverything ask
  never_refuses_everything fraud = fraud (asked_by p1) p1.spans lent (p1_accepted (on p1))

  pub never_one_height : ¬ OneHeight ask
  never_one_height fraud =
      let in-p1 = fraud.always (asked_by p1) p1.spans lent (p1_accepted (on p1)) 0 (omega arith) in
      let in-p6 = fraud.always (asked_by p6) p6.spans lent (p6_accepted (on p6)) 0 (omega arith) in
      omega (arith, in-p1, in-p6, p1_height (on p1), p6_height (on p6))

  pub never_stores_nothing : ¬ StoresNothing ask
  never_stores_nothing fraud = (p1_changes (on p1)).marks (fraud.marks_kept (asked_by p1) p1.spans lent)

  pub never_first_only : ¬ FirstOnly ask
  never_first_only (in_kinds fraud) =
      omega (
        arith,
        fraud (asked_by two) (part 0 2) (part 2 6 ∷ []) (part 1 2 ∷ []) lent refl,
        told two two_there (on two) (λ v. v.kind),
        (second_refused (on spoiled)).0,
      )
  never_first_only (in_heights fraud) =
      omega (
        arith,
        same 1 (fraud (asked_by two) (part 0 2) (part 2 6 ∷ []) (part 1 2 ∷ []) lent refl),
        second_height (on two),
        holds spoiled spoiled_there (on spoiled) (λ m. m.heights) 1,
      )

  pub never_invents : ¬ Invents ask
  never_invents fraud =
      let c = meets fraud.asked fraud.spans fraud.before fraud.every_chunk in
      counts_by_paths c fraud.accepted fraud.invented
