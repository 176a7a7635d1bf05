-- The customer's third demand, of a chunk that passed every check before its walk: it is accepted exactly when depths can be
-- written beside its starts, the height and the counts are those of its paths, a refusal is real, and the height is the least
-- that can be declared.
use mathlib.Core.Bool.{Bool, true, false}
use mathlib.Core.List.{List, []}
use mathlib.Core.Logic.{◌⊎◌, inl, inr, ◌↔◌}
use mathlib.Core.Option.{Option, none, some}
use mathlib.Core.Path.{◌≡◌, refl, sym, ap, ◌∙◌}
use Prim.Native.Nat.{ℕ, ◌+◌, ◌*◌, ◌≤◌, ◌<◌}
use native.Mathlib.Omega.{arith}
use borrow.Author.Tests.{ltb-true, ltb-false, le-ltb}
use lib.Dec.{ltb}
use lib.ListN.{length}
use Rattle.code.specs.Width.{width_of}
use Rattle.listing.proofs.Before.{before_few}
use Rattle.answer.specs.Answer.{unless}
use Rattle.answer.specs.declared.Refusal.{Refusal}
use Rattle.answer.specs.declared.Refusal.TheVariants.{StackExceedsDeclared}
use Rattle.answer.specs.declared.Depths.{Depths}
use Rattle.demand.specs.Chunk.{rule, judge, machine, span_test, room_test, open_test, Judged, passes, fails}
use Rattle.demand.specs.Chunk.{height_test, measured, walked, judge_chunk}
use Rattle.demand.specs.BeforeWalk.{BeforeWalk, WalkAccepts, redeclared}
use Rattle.answer.specs.Depths.{Item}
use Rattle.demand.specs.Span.{Span, chunk_starts, T, E}
use Rattle.rules.specs.Edges.{degree}
use Rattle.demand.specs.Writing.{Writing, at, DepthOnPath, just_after, Measures, Real, Exceeds}
use Rattle.rules.specs.Script.{Script}
use Rattle.machine.specs.Walk.{Book, Run, accepted, refused, unfinished, walk, Log, log}
use Rattle.machine.proofs.Ends.{Bounded, ends, unfinished_bounded, accepted_bounded}
use Rattle.machine.proofs.Exactly.{Accepts, exactly}
use Rattle.demand.proofs.Keeps.{keeps_laws}
use Rattle.machine.proofs.Laws.{Laws}
use Rattle.answer.proofs.Apart.{zero≢one}
use Rattle.machine.proofs.Measures.{measured as machine-measured}
use Rattle.demand.proofs.Inside.{inside, outside}
use Rattle.machine.proofs.Paths as machine
use Rattle.machine.proofs.Refusals.{real}
use Rattle.demand.proofs.Ties.{agrees, path_of, reached_of, written_reached, writing_of, written_of, real_of}

-- ---- a test of a chunk: where it refuses, the chunk fails by it, and else what comes after it decides

module _ {t : Option Refusal} (rest : Judged) where
  pub fails_by : {a : Refusal} → t ≡ some a → unless fails t rest ≡ fails a
  unfolding unless
  fails_by e = rw e

  pub passes_to : t ≡ none → unless fails t rest ≡ rest
  unfolding unless
  passes_to e = rw e

module _ (S : Script) (span : Span) (records work : ℕ) where
  pub judged_shut : {a : Refusal} → open_test S span records work ≡ some a → judge_chunk S span records work ≡ fails a
  unfolding judge_chunk
  judged_shut e = fails_by (walked S span) e

  pub judged_open : open_test S span records work ≡ none → judge_chunk S span records work ≡ walked S span
  unfolding judge_chunk
  judged_open e = passes_to (walked S span) e

-- ---- 14

-- a height is above the declared one, and 14 refuses it; or it is not, and passes
pub data Height (height declared : ℕ) : Type 0 where
  above : declared < height → height_test height declared ≡ some (StackExceedsDeclared height declared)
      → Height height declared
  within : height ≤ declared → height_test height declared ≡ none → Height height declared

pub within_or_above : (height declared : ℕ) → Height height declared
unfolding height_test
within_or_above height declared = go (ltb declared height) refl
  where
    go : (b : Bool) → ltb declared height ≡ b → Height height declared
    go true q = above (ltb-true declared height q) (rw q)
    go false q = within (ltb-false declared height q) (rw q)

-- ---- a chunk that passed every check before its walk

module _ (S : Script) (span : Span) {records work : ℕ} (B : BeforeWalk S span records work) where
  laws : Laws (machine S span) (degree S) (chunk_starts S span)
  laws = keeps_laws S span B

  units : ℕ
  units = 1 + E S span

  -- Theorem 1. The walk ends: it takes 1 + E items at most, and at every moment what waits fits the room for it, and no depth is
  -- above the number of instructions entered.
  pub walk_ends : {w : List Item} {b : Book Log} → ¬ (walk (machine S span) log (1 + E S span) [] ≡ unfinished w b)
  unfolding E
  walk_ends = ends (machine S span) laws (1 + E S span) (omega arith)

  -- So it accepts or refuses, and the chunk is judged by that: the last line of `measured`, of a walk that is out of
  -- units, is never used.
  pub data Told : Type 0 where
    accepts : (b : Book Log) → walk (machine S span) log (1 + E S span) [] ≡ accepted b
        → walked S span
        ≡ unless fails (height_test b.height span.declared) (passes b.height b.reached b.taken)
        → Told
    refuses : (a : Refusal) {spent : ℕ} → walk (machine S span) log (1 + E S span) [] ≡ refused a spent
        → walked S span ≡ fails a → Told

  pub walk_told : Told
  unfolding walked measured
  walk_told = go (walk (machine S span) log (1 + E S span) []) refl
    where
      go : (o : Run Refusal Log) → walk (machine S span) log (1 + E S span) [] ≡ o → Told
      go (accepted b) q = accepts b q (rw q)
      go (refused a u) q = refuses a q (rw q)
      go (unfinished w b) q = absurd (walk_ends q)

  pub walk_bounded : (n : ℕ) {w : List Item} {b : Book Log} → walk (machine S span) log n [] ≡ unfinished w b
      → Bounded (E S span) (length (chunk_starts S span)) w b
  unfolding E
  walk_bounded n e = unfinished_bounded (machine S span) laws n e

  -- there are no more instructions in the chunk than bytes in the code, so each depth fits a word
  pub few_instructions : length (chunk_starts S span) ≤ length S.code
  few_instructions = before_few width_of S.code span.end span.entry

  -- its own tests before the walk pass, so it is judged by its walk
  open_passes : open_test S span records work ≡ none
  unfolding open_test span_test room_test unless
  open_passes =
      rw (
        le-ltb span.end span.entry B.in_order,
        le-ltb (length S.code) span.end B.in_code,
        B.aligned,
        le-ltb records (4 * (1 + T S span)) B.records_room,
        le-ltb work (4 * (1 + E S span)) B.work_room,
      )

  pub judged_walks : judge_chunk S span records work ≡ walked S span
  judged_walks = judged_open S span records work open_passes

  -- what a judged walk tells of the run: it passes exactly if the run accepts within the declared height, with its numbers
  record Ran (height reached taken : ℕ) : Type 0 where
    book : Book Log
    ran : walk (machine S span) log units [] ≡ accepted book
    low : book.height ≤ span.declared
    numbers : (book.height ≡ height) × (book.reached ≡ reached) × (book.taken ≡ taken)

  ran_so : {h r t : ℕ} → walked S span ≡ passes h r t → Ran h r t
  unfolding units
  ran_so {h} {r} {t} e = go walk_told
    where
      go : Told → Ran h r t
      go (accepts b q j) = by_height (within_or_above b.height span.declared)
        where
          by_height : Height b.height span.declared → Ran h r t
          by_height (above l p) = let both = sym (j ∙ fails_by _ p) ∙ e in absurd (zero≢one (cc))
          by_height (within l p) =
              let both = sym (j ∙ passes_to _ p) ∙ e in
              record { book = b; ran = q; low = l; numbers = (cc, cc, cc) }
      go (refuses a q j) = absurd (zero≢one (cc))

  passes_so : (b : Book Log) → walk (machine S span) log units [] ≡ accepted b → b.height ≤ span.declared
      → walked S span ≡ passes b.height b.reached b.taken
  unfolding walked measured height_test unless units
  passes_so b ran low = rw (ran, le-ltb span.declared b.height low)

  exact : Accepts (machine S span) units span.declared ↔ ((A : ℕ → Option Depths) × machine.Writing (machine S span) span.declared A)
  unfolding units E
  exact = exactly (machine S span) laws units span.declared (omega arith)

  machine_writing : {h r t : ℕ} → Ran h r t → (A : ℕ → Option Depths) × machine.Writing (machine S span) span.declared A
  machine_writing a = exact.0 (record { book = a.book; ran = a.ran; low = a.low })

  -- Theorem 2. "It is accepted exactly when [...] depths can be written beside some of its instruction starts so that [...]."
  pub accepted_exactly : WalkAccepts S span ↔ Writing S span
  accepted_exactly = (λ a. written_of S span (machine_writing (ran_so a.so)).1, λ w. back (exact.1 (writing_of S span w)))
    where
      back : Accepts (machine S span) units span.declared → WalkAccepts S span
      back a = record { height = _; reached = _; taken = _; so = passes_so a.book a.ran a.low }

  -- Theorems 3 and 4. "The height answered is then the largest such depth on any path from the entry, and some path attains
  -- it"; reached and taken are "the starts on some path from the entry; 1 + the edges out of those".
  ran_measures : (b : Book Log) → walk (machine S span) log units [] ≡ accepted b → Measures S span b.height b.reached b.taken
  unfolding units E
  ran_measures b ran = record {
    places = m.places;
    no_repeats = m.no_repeats;
    on_paths = λ p. (
      λ k. let o = m.on_path p k in record { depths = o.0; path = path_of S span o.1; start = inside S span (m.inside p k) },
      λ o. m.all _ (reached_of S span W o.path),
    );
    counted = m.counted;
    edges_out = m.summed;
    attained = attained m.attained;
    largest = λ x o. largest o;
  }
    where
      m : machine.Measured (machine S span) (degree S) b.reached b.taken b.height
      m = machine-measured (machine S span) laws units ran

      within : (A : ℕ → Option Depths) × machine.Writing (machine S span) b.height A
      within = (exactly (machine S span) laws units b.height (omega arith)).0 (record { book = b; ran = ran; low = omega arith })

      W : machine.Writing (machine S span) b.height within.0
      W = within.1

      attained : {x : ℕ} → machine.OnPath (machine S span) x → DepthOnPath S span x
      attained (machine.stand_at q c) = at (path_of S span q) (inside S span c)
      attained (machine.stand_after {it} q c g) =
          let tied = agrees S span it g in
          rw tied.post (just_after (path_of S span q) (inside S span c) tied.able)

      largest : {x : ℕ} → DepthOnPath S span x → x ≤ b.height
      largest (at q c) = m.largest _ (machine.stand_at (reached_of S span W q) (outside S span c))
      largest (just_after {i} q c able) =
          let back = reached_of S span W q in
          let g = (W.good i (written_reached S span W back)).passes in
          rw (← (agrees S span i g).post) (m.largest _ (machine.stand_after back (outside S span c) g))

  pub accepted_measures : {h r t : ℕ} → walked S span ≡ passes h r t → Measures S span h r t
  accepted_measures e = let a = ran_so e in rw (a.numbers.0, a.numbers.1, a.numbers.2) at (ran_measures a.book a.ran)

  -- an accepted height is below the number of instructions reached, which is at most that of the chunk
  pub height_below : {h r t : ℕ} → walked S span ≡ passes h r t → (h < r) × (r ≤ length (chunk_starts S span))
  height_below e =
      let a = ran_so e in
      let b = accepted_bounded (machine S span) laws units a.ran in
      (omega (arith, b.1, a.numbers.0, a.numbers.1), omega (arith, b.0.few, a.numbers.1))

  -- Theorem 7. A refusal is real: an instruction on a path from the entry fails that very test with these values; or, for 14,
  -- the largest depth on the paths is above the declared height.
  pub refused_really : {a : Refusal} → walked S span ≡ fails a → Real S span a ⊎ Exceeds S span a
  unfolding units
  refused_really {a} e = go walk_told
    where
      go : Told → Real S span a ⊎ Exceeds S span a
      go (accepts b q j) = by_height (within_or_above b.height span.declared)
        where
          by_height : Height b.height span.declared → Real S span a ⊎ Exceeds S span a
          by_height (above l p) =
              let both = sym (j ∙ fails_by _ p) ∙ e in
              inr (record {
                height = b.height;
                reached = b.reached;
                taken = b.taken;
                measures = ran_measures b q;
                above = l;
                answer = cc;
              })
          by_height (within l p) = let both = sym (j ∙ passes_to _ p) ∙ e in absurd (zero≢one (cc))
      go (refuses x q j) =
          let same : x ≡ a = cc in
          inl (rw same at (real_of S span (real (machine S span) laws (1 + E S span) q)))

-- Theorem 8. The height is the least that can be declared: with the same entry and end, the chunk is accepted under just those
-- declared heights that are no less.
module _ (S : Script) (span : Span) where
  same_walk : (declared : ℕ)
      → walk (machine S (redeclared span declared)) log (1 + E S (redeclared span declared)) [] ≡ walk (machine S span) log (1 + E S span) []
  unfolding rule judge E
  same_walk declared = refl

  pub redeclared_before : {records work : ℕ} (declared : ℕ) → BeforeWalk S span records work → BeforeWalk S (redeclared span declared) records work
  unfolding T E
  redeclared_before declared B = record {
    decoded = B.decoded;
    chain_there = B.chain_there;
    switch_there = B.switch_there;
    chains_within = B.chains_within;
    switches_within = B.switches_within;
    in_order = B.in_order;
    in_code = B.in_code;
    aligned = B.aligned;
    records_room = B.records_room;
    work_room = B.work_room;
  }

  pub least_height : {records work : ℕ} → BeforeWalk S span records work → {h r t : ℕ} → walked S span ≡ passes h r t → (declared : ℕ)
      → WalkAccepts S (redeclared span declared) ↔ (h ≤ declared)
  unfolding units
  least_height B {h} {r} {t} e declared = (to, back)
    where
      first : Ran S span B h r t
      first = ran_so S span B e

      to : WalkAccepts S (redeclared span declared) → h ≤ declared
      to other =
          let then = ran_so S (redeclared span declared) (redeclared_before declared B) other.so in
          let same : then.book ≡ first.book = cc (then.ran, same_walk declared, first.ran) in
          omega (arith, then.low, first.numbers.0, ap (λ (b : Book Log). b.height) same)

      back : h ≤ declared → WalkAccepts S (redeclared span declared)
      back low = record {
        height = _;
        reached = _;
        taken = _;
        so = passes_so S (redeclared span declared) (redeclared_before declared B) first.book (same_walk declared ∙ first.ran) (omega (arith, first.numbers.0));
      }
