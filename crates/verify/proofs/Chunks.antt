-- One chunk judged, in the words of the customer's demand: it passes exactly where it opens and can be written, its height and its
-- counts are those of its paths, which fix them, and what fails it otherwise is real.
use mathlib.Core.Bool.{Bool, true, false, not, ◌||◌, cond}
use mathlib.Core.Logic.{◌⊎◌, inl, inr, ◌↔◌}
use mathlib.Core.Option.{Option, none, some}
use mathlib.Core.Path.{◌≡◌, refl, sym, subst, ◌∙◌}
use Prim.Native.Nat.{ℕ, ◌+◌, ◌*◌, ◌<◌}
use native.Mathlib.Nat.{le_antisymm}
use native.Mathlib.Omega.{arith}
use borrow.Author.Tests.{ltb-true, ltb-false, eq-eqb, eqb-true}
use lib.Dec.{ltb, eqb}
use lib.ListN.{length}
use Rattle.before.specs.Input.{Input}
use Rattle.before.proofs.Established.{Established}
use Rattle.verify.proofs.Walkable.{before_walk}
use Rattle.code.specs.Layout.{among}
use Rattle.code.specs.Width.{width_of}
use Rattle.code.proofs.Among.{among_member, member_among}
use Rattle.listing.specs.Starts.{Start, starts}
use Rattle.listing.proofs.Starts.{listed_start, start_listed}
use Rattle.demand.specs.Span.{Span, InCode, T, E}
use Rattle.opening.proofs.Tests.{span_exactly, room_exactly}
use Rattle.answer.specs.Answer.{refused, unless}
use Rattle.demand.specs.Chunk.{span_test, room_test, open_test, Judged, passes, fails, judge_chunk}
use Rattle.demand.specs.BeforeWalk.{BeforeWalk}
use Rattle.rules.specs.Edges.{degree}
use Rattle.machine.specs.Lists.{sum_of}
use Rattle.demand.specs.Writing.{Writing, Measures, Real, Exceeds}
use Rattle.rules.specs.Script.{Script}
use Rattle.answer.specs.declared.Refusal.{Refusal}
use Rattle.answer.specs.declared.Refusal.TheVariants.{NoRoom, ChunkOutOfRange, Misaligned}
use Rattle.demand.proofs.Demand.{judged_shut, judged_walks, accepted_exactly, accepted_measures, refused_really}
use Rattle.answer.proofs.Apart.{zero≢one}
use Rattle.machine.proofs.Lists.{sum_same, sum_ones}
use Rattle.verify.specs.Demand.{Opens, Shut, out_of_range, misaligned, few_records, little_work, FailsWalk}
use Rattle.verify.proofs.Sorts.{shut_kind, real_kind, opening_refuses, walk_refuses}

-- ---- the tests before its walk

module _ (S : Script) (span : Span) (records work : ℕ) where
  abbrev spanned : Option Refusal
  spanned = span_test S.code span.entry span.end

  abbrev roomy : Option Refusal
  roomy = room_test (T S span) (E S span) records work

  -- they pass exactly where it opens
  pub opens_exactly : open_test S span records work ≡ none ↔ Opens S span records work
  unfolding open_test unless
  opens_exactly = (to spanned refl, back)
    where
      to : (t : Option Refusal) → spanned ≡ t → unless some t roomy ≡ none → Opens S span records work
      to (some a) q e = absurd (zero≢one (cc))
      to none q e =
          let room = (room_exactly (T S span) (E S span) records work).0 e in
          record {
            in_code = (span_exactly S.code span.entry span.end).0 q;
            records_room = room.records_fit;
            work_room = room.work_fits;
          }

      back : Opens S span records work → unless some spanned roomy ≡ none
      back o =
          rw ((span_exactly S.code span.entry span.end).1 o.in_code)
          ((room_exactly (T S span) (E S span) records work).1
          (record { records_fit = o.records_room; work_fits = o.work_room }))

  -- where one of them refuses, that test is the first to fail
  span_shut : {a : Refusal} → spanned ≡ some a → Shut S span records work a
  unfolding span_test
  span_shut {a} =
      go (ltb span.end span.entry) refl (ltb (length S.code) span.end) refl
      (among span.entry (starts S.code)) refl (eqb span.entry (length S.code)) refl
    where
      listed : Start width_of S.code span.entry → among span.entry (starts S.code) ≡ true
      listed s = member_among span.entry (starts S.code) (start_listed width_of S.code span.entry s)

      go : (x : Bool) → ltb span.end span.entry ≡ x → (y : Bool) → ltb (length S.code) span.end ≡ y
          → (m : Bool) → among span.entry (starts S.code) ≡ m
          → (l : Bool) → eqb span.entry (length S.code) ≡ l
          → cond (x || y) (some (ChunkOutOfRange span.entry span.end))
          (cond (not (m || l)) (some (Misaligned span.entry)) none) ≡ some a
          → Shut S span records work a
      go true qx y qy m qm l ql e =
          let same : ChunkOutOfRange span.entry span.end ≡ a = cc in
          subst (Shut S span records work) same (out_of_range (inl (ltb-true span.end span.entry qx)))
      go false qx true qy m qm l ql e =
          let same : ChunkOutOfRange span.entry span.end ≡ a = cc in
          subst (Shut S span records work) same (out_of_range (inr (ltb-true (length S.code) span.end qy)))
      go false qx false qy true qm l ql e = absurd (zero≢one (cc))
      go false qx false qy false qm true ql e = absurd (zero≢one (cc))
      go false qx false qy false qm false ql e =
          let same : Misaligned span.entry ≡ a = cc in
          let in_order = ltb-false span.end span.entry qx in
          let in_code = ltb-false (length S.code) span.end qy in
          subst (Shut S span records work) same
          (misaligned in_order in_code (λ s. zero≢one (cc (listed s, qm)))
          (λ q. zero≢one (cc (eq-eqb span.entry (length S.code) q, ql))))

  room_shut : InCode S.code span.entry span.end → {a : Refusal} → roomy ≡ some a → Shut S span records work a
  unfolding room_test
  room_shut i {a} = go (ltb records (4 * (1 + T S span))) refl (ltb work (4 * (1 + E S span))) refl
    where
      go : (x : Bool) → ltb records (4 * (1 + T S span)) ≡ x → (y : Bool) → ltb work (4 * (1 + E S span)) ≡ y
          → cond x (some (NoRoom (4 * (1 + T S span)) 3)) (cond y (some (NoRoom (4 * (1 + E S span)) 4)) none) ≡ some a
          → Shut S span records work a
      go true qx y qy e =
          let same : NoRoom (4 * (1 + T S span)) 3 ≡ a = cc in
          subst (Shut S span records work) same (few_records i (ltb-true records (4 * (1 + T S span)) qx))
      go false qx true qy e =
          let same : NoRoom (4 * (1 + E S span)) 4 ≡ a = cc in
          subst (Shut S span records work) same
          (little_work i (ltb-false records (4 * (1 + T S span)) qx) (ltb-true work (4 * (1 + E S span)) qy))
      go false qx false qy e = absurd (zero≢one (cc))

  pub shut_really : {a : Refusal} → open_test S span records work ≡ some a → Shut S span records work a
  unfolding open_test unless
  shut_really {a} = go spanned refl
    where
      go : (t : Option Refusal) → spanned ≡ t → unless some t roomy ≡ some a → Shut S span records work a
      go (some b) q e = span_shut (q ∙ e)
      go none q e = room_shut ((span_exactly S.code span.entry span.end).0 q) e

  -- and it does not open
  pub shut_not_open : {a : Refusal} → Shut S span records work a → ¬ Opens S span records work
  shut_not_open (out_of_range (inl h)) o = omega (arith, o.in_code.in_order)
  shut_not_open (out_of_range (inr h)) o = omega (arith, o.in_code.in_code)
  shut_not_open (misaligned in_order in_code no_start not_last) o =
      go (among span.entry (starts S.code)) refl (eqb span.entry (length S.code)) refl o.in_code.aligned
    where
      go : (m : Bool) → among span.entry (starts S.code) ≡ m → (l : Bool) → eqb span.entry (length S.code) ≡ l
          → m || l ≡ true → ⊥
      go true qm l ql e =
          no_start (listed_start width_of S.code span.entry (among_member span.entry (starts S.code) qm))
      go false qm true ql e = not_last (eqb-true span.entry (length S.code) ql)
      go false qm false ql e = zero≢one (cc)
  shut_not_open (few_records i h) o = omega (arith, o.records_room)
  shut_not_open (little_work i r h) o = omega (arith, o.work_room)

  -- it opens, or one of its tests fails it
  data Opening : Type 0 where
    opened : Opens S span records work → Opening
    shut : {a : Refusal} → judge_chunk S span records work ≡ fails a → Shut S span records work a → Opening

  opening : Opening
  opening = go (open_test S span records work) refl
    where
      go : (t : Option Refusal) → open_test S span records work ≡ t → Opening
      go none q = opened (opens_exactly.0 q)
      go (some a) q = shut (judged_shut S span records work q) (shut_really q)

  pub passes_opens : {h r t : ℕ} → judge_chunk S span records work ≡ passes h r t → Opens S span records work
  passes_opens e = go opening
    where
      go : Opening → Opens S span records work
      go (opened o) = o
      go (shut q s) = absurd (zero≢one (cc))

-- ---- its walk

module _ (I : Input) (is : Established I) (span : Span) (records work : ℕ) where
  abbrev here : Judged
  here = judge_chunk I.script span records work

  pub record Passing : Type 0 where
    pub height : ℕ
    pub reached : ℕ
    pub taken : ℕ
    pub so : here ≡ passes height reached taken

  -- where it opens, its walk judges it
  module _ (o : Opens I.script span records work) where
    walks : BeforeWalk I.script span records work
    walks = before_walk I is span records work o.in_code.in_order o.in_code.in_code o.in_code.aligned o.records_room o.work_room

    pub written_passes : Writing I.script span → Passing
    written_passes w = let a = (accepted_exactly I.script span walks).1 w in
        record { height = a.height; reached = a.reached; taken = a.taken; so = judged_walks I.script span walks ∙ a.so }

    pub fails_really : {a : Refusal} → here ≡ fails a → Real I.script span a ⊎ Exceeds I.script span a
    fails_really e = refused_really I.script span walks (sym (judged_walks I.script span walks) ∙ e)

  module _ {h r t : ℕ} (e : here ≡ passes h r t) where
    walked_through : BeforeWalk I.script span records work
    walked_through = walks (passes_opens I.script span records work e)

    pub passes_written : Writing I.script span
    passes_written =
        (accepted_exactly I.script span walked_through).0
        (record { height = h; reached = r; taken = t; so = sym (judged_walks I.script span walked_through) ∙ e })

    pub passes_measures : Measures I.script span h r t
    passes_measures = accepted_measures I.script span walked_through (sym (judged_walks I.script span walked_through) ∙ e)

  -- what fails it: one of its own tests, or its walk
  module _ {a : Refusal} (e : here ≡ fails a) where
    pub fails_for : Shut I.script span records work a ⊎ FailsWalk I.script span records work a
    fails_for = go (opening I.script span records work)
      where
        go : Opening I.script span records work
            → Shut I.script span records work a ⊎ FailsWalk I.script span records work a
        go (opened o) = inr (record { opens = o; real = fails_really o e })
        go (shut {a = b} q s) = let same : b ≡ a = cc in inl (subst (Shut I.script span records work) same s)

    -- so it is refused, under its number
    pub fails_refuses : (number : ℕ) → (0 < (refused number a).kind) × ((refused number a).chunk ≡ number)
    fails_refuses number = go fails_for
      where
        go : Shut I.script span records work a ⊎ FailsWalk I.script span records work a
            → (0 < (refused number a).kind) × ((refused number a).chunk ≡ number)
        go (inl s) = let k = shut_kind I.script span s number in (opening_refuses k.0, k.1)
        go (inr f) = let k = real_kind I.script span f.real number in (walk_refuses k.0, k.1)

-- ---- its numbers

-- the paths of a chunk fix its height and its counts
pub record SameNumbers (height reached taken height' reached' taken' : ℕ) : Type 0 where
  pub same_height : height ≡ height'
  pub same_reached : reached ≡ reached'
  pub same_taken : taken ≡ taken'

module _ {S : Script} {span : Span} {h r t h' r' t' : ℕ}
    (m : Measures S span h r t) (m' : Measures S span h' r' t') where
  same_sum : (f : ℕ → ℕ) → sum_of f m.places ≡ sum_of f m'.places
  same_sum f =
      sum_same f m.places m'.places m.no_repeats m'.no_repeats
      (λ p k. (m'.on_paths p).1 ((m.on_paths p).0 k)) (λ p k. (m.on_paths p).1 ((m'.on_paths p).0 k))

  pub measured_once : SameNumbers h r t h' r' t'
  measured_once = record {
    same_height = le_antisymm (m'.largest h m.attained) (m.largest h' m'.attained);
    same_reached =
        m.counted ∙ sym (sum_ones m.places) ∙ same_sum (λ x. 1) ∙ sum_ones m'.places ∙ sym m'.counted;
    same_taken = m.edges_out ∙ rw (same_sum (degree S)) (sym m'.edges_out);
  }
