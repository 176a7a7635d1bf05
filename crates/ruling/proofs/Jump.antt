-- One jump: its target out of the chunk, at no start, or at one.
use mathlib.Core.Bool.{Bool, true, false, not, ◌||◌, cond}
use mathlib.Core.List.{List}
use mathlib.Core.Option.{none, some}
use mathlib.Core.Path.{◌≡◌, refl}
use Prim.Native.Nat.{ℕ, ◌≤◌, ◌<◌}
use borrow.Author.Tests.{lt-ltb, le-ltb}
use lib.Dec.{ltb, leb}
use Rattle.listing.specs.Starts.{starts}
use Rattle.listing.proofs.Marked.{told_by_marks}
use Rattle.marks.specs.Places.{Holds, bit_at, is_one}
use Rattle.answer.specs.declared.Refusal.TheVariants.{JumpOutOfRange, JumpIntoAnInstruction}
use Rattle.demand.specs.Chunk.{judge}
use Rattle.answer.specs.Depths.{Item}
use Rattle.machine.specs.Walk.{first_bad_jump}
use Rattle.rules.specs.FromLists.{script}
use Rattle.rules.specs.Script.{Script}
use Rattle.demand.specs.Span.{Span}
use Rattle.answer.proofs.Apart.{zero≢one}
use Rattle.ruling.specs.Ruling.{jump_test}

-- the two tests of a range: the second decides where the first does not
pub before_entry : (entry end target : ℕ) → target < entry → ltb target entry ≡ (ltb target entry || leb end target)
before_entry entry end target h = rw (lt-ltb target entry h)

pub by_end : (entry end target : ℕ) → entry ≤ target → leb end target ≡ (ltb target entry || leb end target)
by_end entry end target h = rw (le-ltb target entry h)

module _ (marks : List ℕ) (entry end at target : ℕ) {outside : Bool} (range : outside ≡ (ltb target entry || leb end target)) where
  pub out_of_range : outside ≡ true → some (JumpOutOfRange at target) ≡ jump_test marks entry end at target
  unfolding jump_test
  out_of_range o = rw (← range, o)

  -- inside of the chunk
  module _ (i : outside ≡ false) {b : Bool} (bit : b ≡ is_one (bit_at marks target)) where
    pub at_no_start : not b ≡ true → some (JumpIntoAnInstruction at target) ≡ jump_test marks entry end at target
    unfolding jump_test
    at_no_start n = rw (← range, i, ← bit) (go b n)
      where
        go : (b : Bool) → not b ≡ true → some (JumpIntoAnInstruction at target) ≡ cond b none (some (JumpIntoAnInstruction at target))
        go true e = absurd (zero≢one (cc))
        go false e = refl

    pub at_start : not b ≡ false → none ≡ jump_test marks entry end at target
    unfolding jump_test
    at_start n = rw (← range, i, ← bit) (go b n)
      where
        go : (b : Bool) → not b ≡ false → none ≡ cond b none (some (JumpIntoAnInstruction at target))
        go true e = refl
        go false e = absurd (zero≢one (cc))

-- where the marks hold the starts, it is the judge's test
pub judged : (S : Script) (span : Span) (at target : ℕ) {marks : List ℕ} → Holds marks (starts S.code)
    → jump_test marks span.entry span.end at target ≡ judge S span at target
unfolding jump_test judge
judged S span at target h = rw (told_by_marks h target) refl

-- the judge looks at the code alone, and so does the first jump that it refuses
pub code_alone_judges : (S : Script) (rights : ℕ) (names chains steps switches cases ranges : List ℕ) (span : Span) (at : ℕ)
    (jumps : List Item) → first_bad_jump (judge S span at) jumps
    ≡ first_bad_jump (judge (script rights names chains steps switches cases ranges S.code) span at) jumps
unfolding judge
code_alone_judges S rights names chains steps switches cases ranges span at jumps = refl
