-- What an input is that passes everything before the chunks: what the walk of a chunk builds on, and what marks hold
-- then.
use mathlib.Core.Bool.{Bool, true, false, cond}
use mathlib.Core.List.{List, [], ◌∷◌, Memᴰ}
use mathlib.Core.Option.{none}
use mathlib.Core.Path.{◌≡◌, refl, sym, ap, ◌∙◌}
use Prim.Native.Nat.{ℕ, zero, suc, ◌+◌, ◌/◌, ◌≤◌, ◌<◌}
use native.Mathlib.Nat.{le_of_suc-le-suc}
use native.Mathlib.Omega.{arith}
use borrow.Author.Tests.{eqb-true, leb-true, ne_eqb}
use lib.Dec.{eqb, leb, ltb}
use lib.ListN.{length, get_or, replicate}
use Rattle.code.specs.Width.{width_of, width_at}
use Rattle.code.proofs.Widths.{width_there}
use Rattle.indices.specs.Checks.{checked_at}
use Rattle.indices.specs.Indices.{Ref, Tables, size_of, refs, bad_ref, first_bad_ref}
use Rattle.indices.specs.declared.Sizes as counted
use Rattle.indices.proofs.Named as named
use Rattle.listing.specs.Listing.{stop_by}
use Rattle.listing.specs.Starts.{Start, first as opening, next, starts}
use Rattle.listing.proofs.Starts.{all_within, listed_start, start_wide, starts_total, stop_on, stop_stop}
use Rattle.listing.proofs.WalkLaws.{from_end}
use Rattle.marks.specs.Marks.{marked_all, total}
use Rattle.marks.specs.Places.{Holds, Words}
use Rattle.marks.proofs.Laws.{holds_all, words_all, zeros_words}
use Rattle.pools.specs.Good.{GoodTables, Within}
use Rattle.pools.specs.Told.{fine}
use Rattle.rules.specs.Bits.{Right, bit}
use Rattle.rules.specs.Rights.{lacking}
use Rattle.answer.specs.declared.Refusal.TheVariants.{MissingCaps, Undecodable, BadIndex}
use Rattle.rules.specs.There.{NameThere, ChainThere, SwitchThere}
use Rattle.before.specs.Before.{Test, rights_test, constants_test, function_test, indices_test, width_test, code_test}
use Rattle.before.specs.Before.{late_tests, before_stores, after_stores}
use Rattle.before.specs.Calls.{before_chunks}
use Rattle.before.specs.Input.{Input, sizes_of}
use Rattle.before.specs.Calls.{marks_from, marks_after}
use Rattle.before.specs.Before.{marks_of}
use Rattle.before.proofs.Order.{Opened, opened}
use Rattle.before.proofs.Pass.{code_on, code_stop}
use Rattle.before.proofs.Tests.{Both, both, last, not_refused}

-- ---- from the tests

granted : (needed rights : ℕ) → rights_test needed rights ≡ none → lacking needed rights ≡ 0
unfolding rights_test
granted needed rights e = eqb-true _ 0 (not_refused (eqb (lacking needed rights) 0) (MissingCaps 0 needed) e)

all_granted : (rights : ℕ) (words : List ℕ) → constants_test rights words ≡ none → (i : ℕ) → i < length words
    → lacking (get_or words i 0) rights ≡ 0
unfolding constants_test
all_granted rights [] e i h = elim h [ ]
all_granted rights (word ∷ words) e zero h = granted word rights (both _ _ e).this
all_granted rights (word ∷ words) e (suc i) h =
    all_granted rights words (sym (last _) ∙ (both _ _ e).others) i (le_of_suc-le-suc h)

function_granted : (functions rights : ℕ) → function_test functions rights ≡ none → (functions ≡ 0 → ⊥)
    → lacking (bit Right.FUNCTION) rights ≡ 0
unfolding function_test
function_granted functions rights e n = granted (bit Right.FUNCTION) rights (rw (ne_eqb functions 0 n) at e)

-- a check that tells no kind tells that all is fine
no_kind : (size : ℕ → ℕ) (rs : List Ref) → (first_bad_ref size rs).kind ≡ 0 → first_bad_ref size rs ≡ fine
unfolding first_bad_ref
no_kind size [] e = refl
no_kind size (r ∷ rs) e = go (ltb r.index (size r.pool)) (no_kind size rs) e
  where
    go : (b : Bool) → ((first_bad_ref size rs).kind ≡ 0 → first_bad_ref size rs ≡ fine)
        → (cond b (first_bad_ref size rs) (bad_ref r)).kind ≡ 0 → cond b (first_bad_ref size rs) (bad_ref r) ≡ fine
    go true rest e = rest e
    go false rest e = absurd (omega arith)

-- ---- from the first pass

module _ (sizes : counted.Sizes) (records : Tables) (code : List ℕ) where
  abbrev passes : ℕ → Type 0
  passes at = code_test sizes records code at ≡ none

  -- an instruction's indices pass, and the rest of the code
  in_turn : (at : ℕ) → 0 < width_at code at → passes at
      → Both (indices_test sizes records code at) (code_test sizes records code (at + width_at code at) ∷ [])
  in_turn at h e = both _ _ (sym (code_on sizes records code at h) ∙ e)

  rest : (at : ℕ) → 0 < width_at code at → passes at → passes (at + width_at code at)
  rest at h e = sym (last _) ∙ (in_turn at h e).others

  -- so they do from each start on
  from_start : {at : ℕ} → Start width_of code at → passes 0 → passes at
  from_start (opening h) e = e
  from_start (next s h) e = rest _ (start_wide width_of code s) (from_start s e)

  pub indices_fine : passes 0 → {at : ℕ} → Start width_of code at
      → first_bad_ref (size_of sizes) (refs records code at) ≡ fine
  unfolding indices_test
  indices_fine e {at} s =
      let found = first_bad_ref (size_of sizes) (refs records code at) in
      let passed = (in_turn at (start_wide width_of code s) (from_start s e)).this in
      no_kind _ _ (eqb-true _ 0 (not_refused (eqb found.kind 0) (BadIndex at found.p found.q) passed))

  -- and the instructions stop at the code's end
  pub decoded : passes 0 → stop_by width_of code 0 ≡ length code
  unfolding width_test
  decoded =
      from_end (all_within width_of code) (λ at. at ≤ length code → passes at → stop_by width_of code at ≡ length code)
      (λ at w h e.
      let past = not_refused (leb (length code) at) (Undecodable at) (sym (code_stop sizes records code at w) ∙ e) in
      omega (arith, stop_stop width_of code at w, leb-true (length code) at past))
      (λ at w more h e. stop_on width_of code at w ∙ more (width_there width_of code at w).within (rest at w e))
      0 (omega arith)

-- ---- of an input

-- what passes
pub record Established (I : Input) : Type 0 where
  -- each count is within its limit, and each table good
  pub kept : Within (sizes_of I)
  pub good : GoodTables I.script.pools.chains I.script.pools.steps I.script.pools.switches
      I.script.pools.cases I.script.pools.ranges
  -- the rights that the constants need are granted, and FUNCTION where there are functions
  pub constants_granted : (i : ℕ) → i < length I.script.pools.constants
      → lacking (get_or I.script.pools.constants i 0) I.script.rights ≡ 0
  pub function_granted : (I.functions ≡ 0 → ⊥) → lacking (bit Right.FUNCTION) I.script.rights ≡ 0
  -- every byte of the code belongs to an instruction, whose indices are all fine
  pub decoded : stop_by width_of I.script.code 0 ≡ length I.script.code
  pub indices_fine : (p : ℕ) → Start width_of I.script.code p
      → checked_at I.script.pools I.script.code p ≡ fine

module _ (I : Input) (marks heights : ℕ) (ok : before_chunks I marks heights ≡ none) where
  parts : Both (before_stores I marks heights) (after_stores I ∷ [])
  unfolding before_chunks
  parts = both _ _ ok

  pub early_passed : before_stores I marks heights ≡ none
  early_passed = parts.this

  pub late_passed : after_stores I ≡ none
  late_passed = sym (last _) ∙ parts.others

  pub room : Opened (sizes_of I) I.script.pools.chains I.script.pools.steps I.script.pools.switches
      I.script.pools.cases
      I.script.pools.ranges marks heights
  room = opened _ _ _ _ _ _ _ _ early_passed

  pub established : Established I
  unfolding late_tests
  established =
      let constants = both _ _ late_passed in
      let code = both _ _ constants.others in
      let function = both _ _ code.others in
      record {
        kept = room.kept;
        good = room.good;
        constants_granted = all_granted _ _ constants.this;
        function_granted = function_granted _ _ function.this;
        decoded = decoded _ _ _ code.this;
        indices_fine = λ p s. indices_fine _ _ _ code.this s;
      }

-- ---- what a walk builds on

module _ (I : Input) (is : Established I) where
  -- the entries that an instruction names are there
  module _ (p : ℕ) (s : Start width_of I.script.code p) where
    pub name_there : NameThere I.script.code I.script.pools.names p
    name_there = record { name = named.name_there I.script.pools I.script.code p (is.indices_fine p s) }

    pub chain_there : ChainThere I.script.code I.script.pools.chains I.script.pools.steps p
    chain_there = record {
      chain = λ has.
          let there = named.chain_there I.script.pools I.script.code p (is.indices_fine p s) has in
          record { entry = there; within = (is.good.good_chains _ there).within };
    }

    pub switch_there : SwitchThere I.script.code I.script.pools.switches I.script.pools.cases
        I.script.pools.ranges p
    switch_there = record {
      switch = λ has.
          let there = named.switch_there I.script.pools I.script.code p (is.indices_fine p s) has in
          let good = is.good.good_switches _ there in
          record { entry = there; cases_within = good.cases_within; ranges_within = good.ranges_within };
    }

-- ---- what marks hold

module _ (I : Input) (heights : ℕ) (before : List ℕ) (ok : before_chunks I (length before) heights ≡ none) where
  by_starts : marks_after I heights before ≡ marked_all (replicate (length before) 0) (starts I.script.code)
  unfolding marks_from marks_of
  by_starts =
      ap (λ (early : Test). marks_from early (after_stores I) I.script.code before)
      (early_passed I (length before) heights ok)
      ∙ ap (λ (late : Test). marks_of I.script.code late (length before)) (late_passed I (length before) heights ok)

  -- exactly the starts, in words
  pub marks_hold : Holds (marks_after I heights before) (starts I.script.code)
  marks_hold = rw by_starts (holds_all (length before) (starts I.script.code) within)
    where
      within : (i : ℕ) → Memᴰ i (starts I.script.code) → i / 64 < length before
      within i m =
          let s = listed_start width_of I.script.code i m in
          let there = width_there width_of I.script.code i (start_wide width_of I.script.code s) in
          omega (arith, there.byte, (room I (length before) heights ok).marks_lent)

  pub marks_words : Words (marks_after I heights before)
  marks_words = rw by_starts (words_all _ _ (zeros_words (length before)))

  -- so their ones count the instructions of the code
  pub marks_count : total (marks_after I heights before) ≡ length (starts I.script.code)
  marks_count = starts_total width_of I.script.code _ marks_words marks_hold
