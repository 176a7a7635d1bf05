-- A chunk's walk, item by item over the words, is the walk of the definition: it begins, goes on, and ends as that one does.
use mathlib.Core.List.{List, [], ◌∷◌}
use mathlib.Core.Path.{◌≡◌, refl, sym, ap, ◌∙◌, subst}
use Prim.Native.Nat.{ℕ, ◌+◌, ◌-◌, ◌≤◌}
use native.Mathlib.Omega.{arith}
use lib.ListN.{length}
use Rattle.code.specs.Width.{width_of}
use Rattle.listing.proofs.Before.{before_few}
use Rattle.answer.specs.declared.Refusal.{Refusal}
use Rattle.answer.specs.Answer.{unless}
use Rattle.demand.specs.Chunk.{rule, judge, machine, passes, fails, height_test, measured, walked, judge_chunk}
use Rattle.demand.specs.BeforeWalk.{BeforeWalk, redeclared}
use Rattle.answer.specs.Depths.{Item}
use Rattle.demand.specs.Span.{Span, E}
use Rattle.machine.specs.Walk.{origin, Book, blank, Turn, goes_on, stops, run, Run, accepted, refused, unfinished, walk}
use Rattle.machine.specs.Walk.{Log, log}
use Rattle.rules.specs.Script.{Script}
use Rattle.demand.proofs.Demand.{judged_walks, redeclared_before}
use Rattle.machine.proofs.Ends.{accepted_bounded, refused_bounded}
use Rattle.demand.proofs.Keeps.{keeps_laws}
use Rattle.machine.proofs.Slices.{next_goes_on, next_stops, stays_accepted, stays_refused}
use Rattle.machine.proofs.Stores.{Tells, same_accepted, same_refused}
use Rattle.machine.proofs.Turn.{Taken, again, enters, turn_is, taken_so}
use Rattle.words.specs.Stack.{items, Clear}
use Rattle.words.proofs.Items.{items_none}
use Rattle.walk.specs.declared.Counts.{Counts}
use Rattle.walk.specs.declared.Hand.{Hand}
use Rattle.opening.specs.declared.Room.{Room}
use Rattle.opening.specs.Records.{keys, laid}
use Rattle.walk.specs.Records.{seen_store}
use Rattle.walk.specs.Turn.{room_span, turn_of, WalkAt, GoesOn, Ends}
use Rattle.walk.specs.Hand.{item_of, book_with, book_of, first_hand}
use Rattle.walk.proofs.Store.{Fit, faithful, laid_fit, laid_empty}

measured_as : (declared : ℕ) (b : Book Log) {height reached taken : ℕ} → height ≡ b.height → reached ≡ b.reached → taken ≡ b.taken
    → measured declared (accepted b) ≡ unless fails (height_test height declared) (passes height reached taken)
unfolding measured
measured_as declared b h r t = rw (h, r, t) refl

module _ (S : Script) (room : Room) (words rooms : ℕ) (B : BeforeWalk S (room_span room) words rooms) where
  abbrev span : Span
  span = room_span room

  -- a judged chunk is what its walk over the log comes to
  judged_so : (declared : ℕ) {o : Run Refusal Log} → walk (machine S span) log (1 + E S span) [] ≡ o
      → judge_chunk S (redeclared span declared) words rooms ≡ measured declared o
  unfolding walked rule judge E
  judged_so declared e = judged_walks S (redeclared span declared) (redeclared_before S span declared B) ∙ ap (measured declared) e

  pub begins : (records work : List ℕ) → length records ≡ words → records ≡ laid S span words → Clear work 0
      → (h : Hand) → h ≡ first_hand (keys S span) room.entry → WalkAt S room h records work
  unfolding run
  begins records work l e c h f = record {
    ran = rw (f, items_none work, l, e) refl;
    slot = rw f refl;
    clear = rw f c;
  }

  module _ (h : Hand) (records work : List ℕ) (l : length records ≡ words) (G : WalkAt S room h records work) where
    ran : walk (machine S span) (seen_store S span) h.counts.taken (laid S span words) ≡ unfinished (item_of h ∷ items work h.waiting) (book_of h records)
    ran = rw l at G.ran

    -- what a turn comes to decides how it was taken
    took : {t : Turn Refusal (List ℕ)} → turn_of S room h records work ≡ t
        → Taken (machine S span) (seen_store S span) (item_of h) (items work h.waiting) (book_of h records) t
    took e =
        let way = taken_so (machine S span) (seen_store S span) (item_of h) (items work h.waiting) (book_of h records) in
        subst (λ (t : Turn Refusal (List ℕ)). Taken (machine S span) (seen_store S span) (item_of h) (items work h.waiting) (book_of h records) t)
        (sym (turn_is (machine S span) (seen_store S span) (item_of h) (items work h.waiting) (book_of h records) way.1) ∙ e) way.1

    one_more : {w : List Item} {b : Book (List ℕ)}
        → Taken (machine S span) (seen_store S span) (item_of h) (items work h.waiting) (book_of h records) (goes_on w b) → b.taken ≡ h.counts.taken + 1
    one_more (again a) = refl
    one_more (enters f) = refl

    pub goes : (next : Hand) (records' work' : List ℕ) → length records' ≡ words → GoesOn S room (turn_of S room h records work) next records' work'
        → WalkAt S room next records' work' × (next.counts.taken ≡ h.counts.taken + 1)
    unfolding run
    goes next records' work' l' g =
        let t = took g.turned in
        let count : next.counts.taken ≡ h.counts.taken + 1 = one_more t in (
          record {
            ran =
                rw l'
                (ap (λ (n : ℕ). walk (machine S span) (seen_store S span) n (laid S span words)) count
                ∙ next_goes_on (machine S span) (seen_store S span) h.counts.taken (origin (machine S span) ∷ []) (blank (laid S span words)) ran t);
            slot = g.slot;
            clear = g.clear;
          },
          count,
        )

    -- no item is left
    module _ (last : Counts) (records' work' : List ℕ) (g : Ends S room (turn_of S room h records work) last records' work') where
      over : walk (machine S span) (seen_store S span) (h.counts.taken + 1) (laid S span words) ≡ accepted (book_with last records')
      unfolding run
      over = next_goes_on (machine S span) (seen_store S span) h.counts.taken (origin (machine S span) ∷ []) (blank (laid S span words)) ran (took g.turned)

      on_log : (b : Book Log) × (walk (machine S span) log (h.counts.taken + 1) [] ≡ accepted b) × Tells (machine S span) (seen_store S span) (Fit S span words) (book_with last records') b
      on_log =
          same_accepted (machine S span) (seen_store S span) (Fit S span words) (faithful S span words B.records_room)
          (laid_fit S span words B.records_room) (laid_empty S span words B.records_room) (h.counts.taken + 1) over

      pub last_fit : Fit S span words records'
      last_fit = on_log.2.fit

      pub record Few : Type 0 where
        pub reached : last.reached ≤ length S.code
        pub taken : last.taken ≤ 1 + E S span
        pub height : last.height ≤ length S.code

      pub few : Few
      unfolding E
      few =
          let b = (accepted_bounded (machine S span) (keeps_laws S span B) (h.counts.taken + 1) on_log.1).0 in
          let t = on_log.2 in
          let most = before_few width_of S.code span.end span.entry in
          record {
            reached = omega (arith, b.few, t.reached);
            taken = omega (arith, b.room, t.taken);
            height = omega (arith, b.low, b.few, t.reached, t.height);
          }

      -- with as many units as there can be items it is the same
      whole_walk : walk (machine S span) log (1 + E S span) [] ≡ accepted on_log.0
      whole_walk =
          let enough : h.counts.taken + 1 + (E S span - h.counts.taken) ≡ 1 + E S span = omega (arith, few.taken, one_more (took g.turned)) in
          rw enough at (stays_accepted (machine S span) log (h.counts.taken + 1) (origin (machine S span) ∷ []) (blank []) (E S span - h.counts.taken) on_log.1)

      pub ended : (declared : ℕ) → judge_chunk S (redeclared span declared) words rooms
          ≡ unless fails (height_test last.height declared) (passes last.height last.reached last.taken)
      ended declared = let t = on_log.2 in judged_so declared whole_walk ∙ measured_as declared on_log.0 t.height t.reached t.taken

    -- a refusal
    module _ {a : Refusal} (e : turn_of S room h records work ≡ stops a) where
      stopped : walk (machine S span) log (h.counts.taken + 1) [] ≡ refused a (h.counts.taken + 1)
      stopped =
          same_refused (machine S span) (seen_store S span) (Fit S span words) (faithful S span words B.records_room)
          (laid_fit S span words B.records_room) (laid_empty S span words B.records_room) (h.counts.taken + 1)
          (next_stops (machine S span) (seen_store S span) h.counts.taken (origin (machine S span) ∷ []) (blank (laid S span words)) ran (took e))

      pub refuses_so : (declared : ℕ) → judge_chunk S (redeclared span declared) words rooms ≡ fails a
      unfolding measured E
      refuses_so declared =
          let most = refused_bounded (machine S span) (keeps_laws S span B) (h.counts.taken + 1) stopped in
          let enough : h.counts.taken + 1 + (E S span - h.counts.taken) ≡ 1 + E S span = omega arith in
          judged_so declared (rw enough at (stays_refused (machine S span) log (h.counts.taken + 1) (origin (machine S span) ∷ []) (blank []) (E S span - h.counts.taken) stopped))
