-- What a turn comes to: from what the parts of the code leave to the turn of the walk.
use mathlib.Core.Bool.{Bool, true, false, ◌&&◌, cond}
use mathlib.Core.List.{List}
use mathlib.Core.Option.{none, some}
use mathlib.Core.Path.{◌≡◌, refl, sym, ◌∙◌, subst}
use Prim.Native.Nat.{ℕ, ◌+◌, ◌*◌, ◌≤◌, ◌<◌}
use native.Mathlib.Omega.{arith}
use lib.Dec.{ltb, eqb}
use lib.ListN.{length, get_or, take, length-map}
use Rattle.answer.specs.declared.Refusal.{Refusal}
use Rattle.answer.specs.declared.Refusal.TheVariants.{FallsOffTheEnd, DepthConflict}
use Rattle.answer.specs.declared.Depths.{Depths}
use Rattle.answer.specs.Depths.{agree, Item}
use Rattle.rules.specs.Edges.{falls, targets, after, jumped, next}
use Rattle.machine.specs.Walk.{gives, fall_to, goes_on, stops, push, first_bad_jump, seen}
use Rattle.demand.specs.Chunk.{rule, judge, machine}
use Rattle.rules.specs.Script.{Script, tag_of}
use Rattle.machine.specs.Walk as definition
use Rattle.machine.proofs.Agree.{agree_true, agree_refl}
use Rattle.answer.proofs.Apart.{zero≢one}
use Rattle.machine.proofs.Turn.{is_off, clashes, again, refuses, turn_is}
use Rattle.ruling.specs.declared.Edges.{Edges}
use Rattle.ruling.specs.Ruling.{edges_of}
use Rattle.words.specs.Seen.{seen_told, seen_at}
use Rattle.words.specs.Stack.{items, put_all, Clear}
use Rattle.words.proofs.Items.{items_none, items_put_all, clear_put_all}
use Rattle.walk.specs.declared.Hand.{Hand}
use Rattle.opening.specs.declared.Room.{Room}
use Rattle.walk.specs.declared.Turn.{Turn}
use Rattle.walk.specs.declared.Turn.TheVariants.{Next, Done}
use Rattle.std.specs.Prelude.{Ok, Err, Some}
use Rattle.opening.specs.Records.{keys}
use Rattle.walk.specs.Records.{seen_store}
use Rattle.walk.specs.Turn.{room_span, turn_of, AtItem, Unseen, SameTurn, ItemTaken}
use Rattle.walk.specs.Leaving.{jumps_to, BackOrDone, RoomToLeave, InstructionLeft}
use Rattle.walk.specs.Hand.{item_of, book_of, dropped_hand, entered_hand}
use Rattle.walk.proofs.Turns.{front, noted_so, seen_so, entered_turn}

-- depths compared by the code: they agree
abbrev same_depths : Depths → Depths → Bool
same_depths d e = eqb d.operands e.operands && (eqb d.iterators e.iterators && eqb d.handlers e.handlers)

agree_same : (d e : Depths) → agree d e ≡ same_depths d e
unfolding agree
agree_same d e = go (eqb d.operands e.operands)
  where
    go : (b : Bool) → b && eqb d.iterators e.iterators && eqb d.handlers e.handlers
        ≡ b && (eqb d.iterators e.iterators && eqb d.handlers e.handlers)
    go true = refl
    go false = refl

module _ (S : Script) (room : Room) where
  -- a turn that goes on with what waits, where the item pushed last was then taken back
  pub back_comes : {t : definition.Turn Refusal (List ℕ)} (records work : List ℕ) {records₁ : List ℕ} (work₁ : List ℕ) (work₂ : List ℕ) (in_hand : Hand) (r : Turn)
      → t ≡ goes_on (items work₁ in_hand.waiting) (book_of in_hand records₁) → Clear work₁ in_hand.waiting
      → BackOrDone (keys S (room_span room)) in_hand work₁ r work₂ → SameTurn S room t records work (Ok r) records₁ work₂
  back_comes records work work₁ work₂ in_hand (Next following) e c b = record {
    turned = e ∙ rw (b.waits, b.counts) refl;
    slot = b.slot;
    clear = b.clear;
  }
  back_comes records work work₁ work₂ in_hand (Done last) e c b = record {
    turned = e ∙ rw (b.counts, b.waits, items_none work₁) refl;
    clear = rw b.words (rw b.waits at c);
  }

  pub stopped : (h : Hand) (records work : List ℕ) {a : Refusal} → turn_of S room h records work ≡ stops a → ItemTaken S room h records work (Err a) records work
  stopped h records work e = record { turned = e; same_records = refl; same_work = refl }

module _ (S : Script) (room : Room) (h : Hand) (records work : List ℕ) (A : AtItem S room h records work) where
  -- ---- at the end, and at a place seen before

  pub off_turn : room.end ≤ h.place → turn_of S room h records work ≡ stops FallsOffTheEnd
  off_turn l = turn_is (machine S (room_span room)) (seen_store S (room_span room)) (item_of h) (items work h.waiting) (book_of h records) (refuses (is_off l))

  module _ (below_end : h.place < room.end) (d : Depths) (s : seen (machine S (room_span room)) (seen_store S (room_span room)) h.place records ≡ some d) where
    dropped_turn : agree d h.depths ≡ true → turn_of S room h records work ≡ goes_on (items work h.waiting) (book_of (dropped_hand h) records)
    dropped_turn e =
        turn_is (machine S (room_span room)) (seen_store S (room_span room)) (item_of h) (items work h.waiting) (book_of h records)
        (again (record { below = below_end; found = rw (agree_true d h.depths e) at s }))

    pub dropped_took : agree d h.depths ≡ true → {in_hand : Hand} → in_hand ≡ dropped_hand h → (r : Turn) (work' : List ℕ)
        → BackOrDone (take room.keys records) in_hand work r work' → ItemTaken S room h records work (Ok r) records work'
    dropped_took e {in_hand} same r work' b =
        back_comes S room records work work work' in_hand r (dropped_turn e ∙ rw same refl) (rw same A.going.clear)
        (rw (front S room h records work A) at b)

    pub clash_turn : agree d h.depths ≡ false → turn_of S room h records work ≡ stops (DepthConflict h.place d h.depths)
    clash_turn e =
        turn_is (machine S (room_span room)) (seen_store S (room_span room)) (item_of h) (items work h.waiting) (book_of h records)
        (refuses (clashes below_end s (λ same. zero≢one (cc (agree_refl d)))))

  -- the same, of what the code was told at the place, and of how it compared the depths
  module _ (here : room.end ≤ h.place → ⊥) (d : Depths)
      (s : seen_told (Some d) ≡ cond (ltb h.slot room.keys && eqb (get_or records h.slot 0) h.place) (seen_at records (room.base + h.slot * 3)) none) where
    met : seen (machine S (room_span room)) (seen_store S (room_span room)) h.place records ≡ some d
    unfolding seen_told
    met = sym (s ∙ seen_so S room h records work A)

    pub drops : true ≡ same_depths d h.depths → (in_hand : Hand) → in_hand ≡ dropped_hand h → (r : Turn) (work' : List ℕ)
        → BackOrDone (take room.keys records) in_hand work r work' → ItemTaken S room h records work (Ok r) records work'
    drops e in_hand same r work' b = dropped_took (omega (arith, here)) d met (agree_same d h.depths ∙ sym e) same r work' b

    pub conflicts : false ≡ same_depths d h.depths → ItemTaken S room h records work (Err (DepthConflict h.place d h.depths)) records work
    conflicts e = stopped S room h records work (clash_turn (omega (arith, here)) d met (agree_same d h.depths ∙ sym e))

  -- ---- at a new place

  module _ (U : Unseen S room h records)
      (e : rule S (room_span room) h.place h.depths
      ≡ gives (after S h.place h.depths).operands (cond (falls (tag_of S h.place)) (some (after S h.place h.depths)) none)
      (jumps_to (jumped S h.place h.depths) (targets S h.place)))
      (good : first_bad_jump (judge S (room_span room) h.place) (jumps_to (jumped S h.place h.depths) (targets S h.place)) ≡ none) where
    js : List Item
    js = jumps_to (jumped S h.place h.depths) (targets S h.place)

    count : length js ≡ length (targets S h.place)
    unfolding js
    count = length-map (targets S h.place) (λ (t : ℕ). record { place = t; depths = jumped S h.place h.depths })

    in_hand : Hand
    in_hand = entered_hand h (after S h.place h.depths).operands (h.waiting + length (targets S h.place))

    module _ (L : RoomToLeave room h (next S h.place) (targets S h.place) records work) where
      pushed : items (put_all work h.waiting js) (h.waiting + length (targets S h.place)) ≡ push js (items work h.waiting)
      pushed = rw (← count) (items_put_all js work h.waiting (omega (arith, count, L.jumps_room)))

      nothing_above : Clear (put_all work h.waiting js) (h.waiting + length (targets S h.place))
      nothing_above = rw (← count) (clear_put_all js work h.waiting L.clear)

      pub left_took : {edges : Edges} {r : Turn} {records' work' : List ℕ} → edges ≡ edges_of S h.place h.depths
          → InstructionLeft room h edges (targets S h.place) records work r records' work'
          → ItemTaken S room h records work (Ok r) records' work'
      unfolding js in_hand fall_to
      left_took {edges} {r} {records'} {work'} these given = go (falls (tag_of S h.place)) refl
        where
          l : InstructionLeft room h (edges_of S h.place h.depths) (targets S h.place) records work r records' work'
          l = rw these at given

          same : records' ≡ (seen_store S (room_span room)).note (item_of h) records
          same = l.words ∙ noted_so S room h records work A

          turned : (b : Bool) → falls (tag_of S h.place) ≡ b → turn_of S room h records work
              ≡ goes_on (fall_to (next S h.place) (cond b (some (after S h.place h.depths)) none) (push js (items work h.waiting))) (book_of in_hand records')
          turned b q = rw (same, ← q) (entered_turn S room h records work A U e good)

          go : (b : Bool) → falls (tag_of S h.place) ≡ b → ItemTaken S room h records work (Ok r) records' work'
          go true q =
              let g = l.goes q in
              subst (λ (t : Turn). ItemTaken S room h records work (Ok t) records' work') (sym g.0)
              (record {
                turned = turned true q ∙ rw (g.1, pushed) refl;
                slot = rw (front S room h records work A) refl;
                clear = rw g.1 nothing_above;
              })
          go false q = back_comes S room records work (put_all work h.waiting js) work' in_hand r (turned false q ∙ rw (← pushed) refl) nothing_above (rw (front S room h records work A) at (l.back q))
