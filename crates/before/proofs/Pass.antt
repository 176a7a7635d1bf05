-- The first pass in plain terms: what one instruction comes to, what holds before each turn of the loop, and what a
-- turn and each way out make of it.
use mathlib.Core.Bool.{Bool, true, false, cond}
use mathlib.Core.List.{List, [], ◌∷◌}
use mathlib.Core.Option.{none, some}
use mathlib.Core.Path.{◌≡◌, refl, sym, ap, ◌∙◌}
use Prim.Native.Nat.{ℕ, ◌+◌, ◌/◌, ◌≤◌, ◌<◌}
use native.Mathlib.Omega.{arith}
use borrow.Author.Tests.{le-leb, lt-leb, ne_eqb, eqb-true, eqb-false}
use lib.Dec.{eqb}
use lib.ListN.{length}
use Rattle.std.specs.Prelude.{Some, None, Ok, Err, ◌≢◌}
use Rattle.code.specs.Answers.{found_at}
use Rattle.code.specs.Width.{width_of, width_at}
use Rattle.code.specs.declared.NoWidth.{NoWidth}
use Rattle.code.specs.declared.NoWidth.TheVariants.{NoByte}
use Rattle.code.proofs.Widths.{wide, width_there, told_width, told_past, told_byte}
use Rattle.indices.specs.Indices.{Tables}
use Rattle.indices.specs.declared.Sizes.{Sizes}
use Rattle.listing.specs.Starts.{starts_by, starts}
use Rattle.listing.proofs.WalkLaws.{walk_on, walk_stop}
use Rattle.listing.proofs.Starts.{all_within, starts_on, starts_stop}
use Rattle.marks.specs.Marks.{marked, marked_all}
use Rattle.marks.proofs.Laws.{length_marked}
use Rattle.answer.specs.declared.Refusal.{Refusal}
use Rattle.answer.specs.declared.Refusal.TheVariants.{Undecodable}
use Rattle.answer.specs.Answer.{told, unless}
use Rattle.answer.proofs.Apart.{zero≢one}
use Rattle.before.specs.Before.{Test, first, indices_test, width_test, code_test}
use Rattle.before.specs.Calls.{Outcome}
use Rattle.before.specs.Pass.{Turn, turn_at, marks_turned, Turned, MarkedAll}
use Rattle.before.proofs.Tests.{last}

-- a width that is told is more than 0, and its instruction lies within the code
pub there : (code : List ℕ) (at w : ℕ) → Ok w ≡ found_at code at → 0 < width_at code at
there code at w e = rw (told_width width_of code at e) (wide width_of code at w e).some

module _ (sizes : Sizes) (records : Tables) (code : List ℕ) where
  -- ---- one instruction, from what is told of its width and its indices

  -- where there is a width, the indices decide
  decided : (at : ℕ) {w : ℕ} → Ok w ≡ found_at code at
      → turn_at sizes records code at ≡ unless Err (indices_test sizes records code at) (Ok (Some (at + w)))
  unfolding turn_at
  decided at {w} e =
      rw (told_width width_of code at e, ne_eqb w 0 (λ z. omega (arith, (wide width_of code at w e).some))) refl

  module _ (at : ℕ) {before : List ℕ} where
    pub passed : {w : ℕ} {after : List ℕ} → Ok w ≡ found_at code at → none ≡ indices_test sizes records code at
        → after ≡ marked before at → Turned (turn_at sizes records code at) at before (Ok (Some (at + w))) after
    unfolding unless marks_turned
    passed {w} e f m = record { turns = turns; marks = m ∙ ap (marks_turned before at) turns }
      where
        turns : Ok (Some (at + w)) ≡ turn_at sizes records code at
        turns = rw (decided at e, ← f) refl

    pub bad_index : {w : ℕ} {answer : Refusal} {r : Turn} → Ok w ≡ found_at code at
        → some answer ≡ indices_test sizes records code at → r ≡ Err answer
        → Turned (turn_at sizes records code at) at before r before
    unfolding unless marks_turned
    bad_index {r = r} e f g =
        record { turns = turns; marks = ap (marks_turned before at) (sym g ∙ turns) }
      where
        turns : r ≡ turn_at sizes records code at
        turns = g ∙ rw (decided at e, ← f) refl

    pub code_ends : {why : NoWidth} → Err why ≡ found_at code at → why ≡ NoByte
        → Turned (turn_at sizes records code at) at before (Ok None) before
    unfolding turn_at unless width_test marks_turned
    code_ends {why} e n = record { turns = turns; marks = ap (marks_turned before at) turns }
      where
        turns : Ok None ≡ turn_at sizes records code at
        turns =
            let ended : Err NoByte ≡ found_at code at = ap Err (sym n) ∙ e in
            rw (told_width width_of code at ended, le-leb (length code) at (told_past width_of code at ended))

    pub no_width : {why : NoWidth} → Err why ≡ found_at code at → why ≢ NoByte
        → Turned (turn_at sizes records code at) at before (Err (Undecodable at)) before
    unfolding turn_at unless width_test marks_turned
    no_width {why} e l = record { turns = turns; marks = ap (marks_turned before at) turns }
      where
        turns : Err (Undecodable at) ≡ turn_at sizes records code at
        turns =
            rw (told_width width_of code at e, lt-leb (length code) at (told_byte width_of code at why l e))

  -- ---- what a turn says of the whole pass

  -- at an instruction its indices are tested and then the rest of the code; where there is none, the width
  pub code_on : (at : ℕ) → 0 < width_at code at
      → code_test sizes records code at
      ≡ first (indices_test sizes records code at ∷ code_test sizes records code (at + width_at code at) ∷ [])
  unfolding code_test
  code_on at h =
      walk_on (λ i rest. first (indices_test sizes records code i ∷ rest ∷ [])) (width_test code)
      (all_within width_of code) at h

  pub code_stop : (at : ℕ) → width_at code at ≡ 0 → code_test sizes records code at ≡ width_test code at
  unfolding code_test
  code_stop at e =
      walk_stop (λ i rest. first (indices_test sizes records code i ∷ rest ∷ [])) (width_test code)
      (all_within width_of code) at e

  -- indices that are fine leave it to the rest, and a bad one does not
  told_next : (at : ℕ) → 0 < width_at code at → indices_test sizes records code at ≡ none
      → code_test sizes records code at ≡ code_test sizes records code (at + width_at code at)
  unfolding first
  told_next at h t = code_on at h ∙ rw t (last _)

  told_here : (at : ℕ) {answer : Refusal} → 0 < width_at code at → indices_test sizes records code at ≡ some answer
      → code_test sizes records code at ≡ some answer
  unfolding first
  told_here at h t = code_on at h ∙ rw t

  -- the four ways of a turn
  data Ways (at : ℕ) : Turn → Type 0 where
    ends : width_at code at ≡ 0 → width_test code at ≡ none → Ways at (Ok None)
    lacks : {answer : Refusal} → width_at code at ≡ 0 → width_test code at ≡ some answer → Ways at (Err answer)
    passes : 0 < width_at code at → indices_test sizes records code at ≡ none
        → Ways at (Ok (Some (at + width_at code at)))
    is_bad : {answer : Refusal} → 0 < width_at code at → indices_test sizes records code at ≡ some answer
        → Ways at (Err answer)

  ways : (at : ℕ) → Ways at (turn_at sizes records code at)
  unfolding turn_at unless
  ways at = go (eqb (width_at code at) 0) refl (width_test code at) refl (indices_test sizes records code at) refl
    where
      go : (b : Bool) → eqb (width_at code at) 0 ≡ b → (s : Test) → width_test code at ≡ s
          → (t : Test) → indices_test sizes records code at ≡ t
          → Ways at (cond b (unless Err s (Ok None)) (unless Err t (Ok (Some (at + width_at code at)))))
      go true p none q t r = ends (eqb-true _ 0 p) q
      go true p (some answer) q t r = lacks (eqb-true _ 0 p) q
      go false p s q none r =
          let some : width_at code at ≡ 0 → ⊥ = eqb-false (width_at code at) 0 p in passes (omega arith) r
      go false p s q (some answer) r =
          let some : width_at code at ≡ 0 → ⊥ = eqb-false (width_at code at) 0 p in is_bad (omega arith) r

  -- ---- the loop

  -- what is left to mark and to tell from here on is what there was to mark and to tell from the start
  pub record Going (first marks : List ℕ) (at : ℕ) : Type 0 where
    pub within : at ≤ length code
    pub room : length code / 64 < length marks
    pub long : length marks ≡ length first
    pub to_mark : marked_all marks (starts_by width_of code at) ≡ marked_all first (starts code)
    pub to_tell : code_test sizes records code at ≡ code_test sizes records code 0

  pub going_first : (first : List ℕ) → length code / 64 < length first → Going first first 0
  going_first first h = record { within = omega arith; room = h; long = refl; to_mark = refl; to_tell = refl }

  module _ {first marks : List ℕ} {at : ℕ} (going : Going first marks at) {r : Turn} {after : List ℕ}
      (taken : Turned (turn_at sizes records code at) at marks r after) where
    -- what marks hold after the turn, and that they are as many words
    held : {turn : Turn} → r ≡ turn → after ≡ marks_turned marks at turn
    held e = taken.marks ∙ ap (marks_turned marks at) (sym taken.turns ∙ e)

    as_long : length after ≡ length first
    unfolding marks_turned
    as_long = ap length taken.marks ∙ go (turn_at sizes records code at) ∙ going.long
      where
        go : (turn : Turn) → length (marks_turned marks at turn) ≡ length marks
        go (Ok (Some n)) = length_marked marks at
        go (Ok None) = refl
        go (Err answer) = refl

    -- an instruction that is passed is marked, and the turn goes forward within the code
    pub record Forward (n : ℕ) : Type 0 where
      pub more : at < n
      pub inside : n ≤ length code
      pub goes : Going first after n

    forward : 0 < width_at code at → indices_test sizes records code at ≡ none → after ≡ marked marks at
        → Forward (at + width_at code at)
    unfolding marked_all
    forward w t m =
        let there = width_there width_of code at w in
        record {
          more = omega arith;
          inside = there.within;
          goes = record {
            within = there.within;
            room = rw (as_long ∙ sym going.long) going.room;
            long = as_long;
            to_mark = rw m (ap (marked_all marks) (sym (starts_on width_of code at w)) ∙ going.to_mark);
            to_tell = sym (told_next at w t) ∙ going.to_tell;
          };
        }

    pub going_next : {n : ℕ} → r ≡ Ok (Some n) → Forward n
    unfolding marks_turned
    going_next {n} e = go (ways at) (sym taken.turns ∙ e)
      where
        go : {turn : Turn} → Ways at turn → turn ≡ Ok (Some n) → Forward n
        go (ends w t) q = absurd (zero≢one (cc))
        go (lacks w t) q = absurd (zero≢one (cc))
        go (is_bad w t) q = absurd (zero≢one (cc))
        go (passes w t) q =
            let next : n ≡ at + width_at code at = cc in
            rw next (forward w t (held e))

    -- at the code's end all is marked and nothing refused
    pub all_passed : r ≡ Ok None → MarkedAll code (code_test sizes records code 0) first (Ok tt) after
    unfolding told marks_turned marked_all
    all_passed e = go (ways at) (sym taken.turns ∙ e)
      where
        go : {turn : Turn} → Ways at turn → turn ≡ Ok None
            → MarkedAll code (code_test sizes records code 0) first (Ok tt) after
        go (ends w t) q = record {
          answer = sym (code_stop at w ∙ t) ∙ going.to_tell;
          long = as_long;
          marks = λ none. held e ∙ ap (marked_all marks) (sym (starts_stop width_of code at w)) ∙ going.to_mark;
        }
        go (lacks w t) q = absurd (zero≢one (cc))
        go (passes w t) q = absurd (zero≢one (cc))
        go (is_bad w t) q = absurd (zero≢one (cc))

    -- a refusal is the whole pass's
    pub refused_here : {answer : Refusal} {s : Outcome} → r ≡ Err answer → s ≡ Err answer
        → MarkedAll code (code_test sizes records code 0) first s after
    unfolding told
    refused_here {answer} e g =
        rw g record {
          answer = go (ways at) (sym taken.turns ∙ e);
          long = as_long;
          marks = λ none. absurd (zero≢one (cc));
        }
      where
        go : {turn : Turn} → Ways at turn → turn ≡ Err answer → some answer ≡ code_test sizes records code 0
        go (ends w t) q = absurd (zero≢one (cc))
        go (lacks w t) q = sym (code_stop at w ∙ t ∙ (cc)) ∙ going.to_tell
        go (passes w t) q = absurd (zero≢one (cc))
        go (is_bad w t) q = sym (told_here at w t ∙ (cc)) ∙ going.to_tell
