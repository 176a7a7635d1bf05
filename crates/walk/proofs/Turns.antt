-- From the parts of a turn to the turn: what the words say is what the walk over the store says.
use mathlib.Core.Bool.{Bool, true, false, ◌&&◌, cond}
use mathlib.Core.List.{List}
use mathlib.Core.Option.{none, some}
use mathlib.Core.Path.{◌≡◌, refl, sym, ◌∙◌}
use Prim.Native.Nat.{ℕ, ◌+◌, ◌*◌, ◌^◌, ◌≤◌, ◌<◌}
use native.Mathlib.Decide.{dec_lt}
use native.Mathlib.Omega.{arith}
use borrow.Author.Tests.{lt-ltb, le-ltb, eq-eqb, eqb-true}
use lib.Dec.{ltb, eqb}
use lib.ListN.{length, get_or, take}
use lib.Seq.{get_or-take}
use Rattle.std.proofs.lemmas.List.{length-take-le}
use Rattle.code.specs.Layout.{among}
use Rattle.code.specs.Width.{width_of}
use Rattle.listing.specs.Starts.{Start}
use Rattle.order.specs.Order.{Rising, below}
use Rattle.order.proofs.Laws.{below_mono}
use Rattle.pools.proofs.Most.{code_small}
use Rattle.answer.specs.declared.Refusal.{Refusal}
use Rattle.rules.specs.Edges.{degree, falls, targets, after, jumped, next}
use Rattle.machine.specs.Walk.{denies, gives, fall_to, entered, goes_on, stops, push, first_bad_jump, seen}
use Rattle.demand.specs.Chunk.{rule, judge, machine}
use Rattle.rules.specs.Script.{Script, tag_of}
use Rattle.rules.specs.There.{Stands}
use Rattle.demand.specs.Span.{Span}
use Rattle.machine.proofs.Laws.{Passes}
use Rattle.answer.proofs.Apart.{zero≢one}
use Rattle.machine.proofs.Turn.{New, is_denied, jumps_badly, enters, refuses, turn_is, seen_named, seen_other}
use Rattle.words.specs.Seen.{seen_at, note_at}
use Rattle.words.specs.Stack.{items}
use Rattle.walk.specs.declared.Hand.{Hand}
use Rattle.opening.specs.declared.Room.{Room}
use Rattle.opening.specs.Ready.{Ready}
use Rattle.opening.specs.Records.{named, keys}
use Rattle.walk.specs.Records.{slot_of, seen_store}
use Rattle.walk.specs.Turn.{room_span, turn_of, AtItem, Unseen}
use Rattle.walk.specs.Leaving.{jumps_to, noted, RoomToLeave}
use Rattle.walk.specs.Hand.{item_of, book_of}
use Rattle.walk.proofs.Moment.{fit, in_chunk, small, roomy}
use Rattle.walk.proofs.Store.{take_note}
use Rattle.opening.proofs.Passed.{stands}
use Rattle.opening.proofs.Targets.{few_keys, keys_rise, named_key, key_named, key_there, there_key}

-- ---- the depths noted

pub noted_front : (room : Room) (h : Hand) (records : List ℕ) → room.keys ≤ room.base → take room.keys (noted room h records) ≡ take room.keys records
noted_front room h records l = go (ltb h.slot room.keys && eqb (get_or records h.slot 0) h.place)
  where
    go : (b : Bool) → take room.keys (cond b (note_at records (room.base + h.slot * 3) h.depths) records) ≡ take room.keys records
    go true = take_note records room.keys (room.base + h.slot * 3) h.depths (omega arith)
    go false = refl

-- ---- an item in hand

module _ (S : Script) (room : Room) (h : Hand) (records work : List ℕ) (A : AtItem S room h records work) where
  abbrev span : Span
  span = room_span room

  abbrev ks : List ℕ
  ks = keys S span

  pub front : take room.keys records ≡ ks
  front = rw A.keyed (fit S room records work A.before h A.going).front

  pub rises : Rising (take room.keys records)
  rises = rw front (keys_rise S span)

  pub keys_behind : room.keys ≤ room.base
  keys_behind = omega (arith, A.keyed, A.base, few_keys S span)

  pub keys_room : room.keys ≤ length records
  keys_room = omega (arith, keys_behind, A.base, A.before.records_room)

  pub keys_counted : room.keys ≡ length (take room.keys records)
  keys_counted = sym (length-take-le room.keys records keys_room)

  pub notes_room : room.base + room.keys * 3 ≤ length records
  notes_room = omega (arith, keys_behind, A.base, A.before.records_room)

  -- the word that the pointer points to
  abbrev is_key : Bool
  is_key = ltb h.slot room.keys && eqb (get_or records h.slot 0) h.place

  word_there : h.slot < room.keys → get_or records h.slot 0 ≡ get_or ks (below ks h.place) 0
  word_there l = sym (get_or-take room.keys records h.slot 0 l) ∙ rw (front, A.going.slot) refl

  -- it is the place in hand exactly if that is named
  key_told : is_key ≡ among h.place ks
  key_told = go (dec_lt h.slot room.keys) (among h.place ks) refl
    where
      go : Dec (h.slot < room.keys) → (b : Bool) → among h.place ks ≡ b → is_key ≡ b
      go (yes l) true e = rw (lt-ltb h.slot room.keys l) (eq-eqb _ _ (word_there l ∙ (key_there S span h.place e).1))
      go (yes l) false e = rw (lt-ltb h.slot room.keys l) (no_word (eqb (get_or records h.slot 0) h.place) refl)
        where
          no_word : (b : Bool) → eqb (get_or records h.slot 0) h.place ≡ b → b ≡ false
          no_word true q =
              let there = there_key S span h.place (omega (arith, A.going.slot, A.keyed)) (sym (word_there l) ∙ eqb-true _ _ q) in
              absurd (zero≢one (cc))
          no_word false q = refl
      go (no n) true e = absurd (n (omega (arith, A.going.slot, A.keyed, (key_there S span h.place e).0)))
      go (no n) false e = rw (le-ltb h.slot room.keys (omega arith))

  same_slot : room.base + h.slot * 3 ≡ slot_of S span h.place
  unfolding slot_of
  same_slot = rw (A.base, A.going.slot)

  -- so the words note what the store notes, and recall what it recalls
  pub noted_so : noted room h records ≡ (seen_store S span).note (item_of h) records
  noted_so = rw (key_told, same_slot)

  pub seen_so : cond is_key (seen_at records (room.base + h.slot * 3)) none ≡ seen (machine S span) (seen_store S span) h.place records
  seen_so = rw (key_told, same_slot) (go (among h.place ks) refl (among h.place (named S span)) refl)
    where
      go : (a : Bool) → among h.place ks ≡ a → (b : Bool) → among h.place (named S span) ≡ b
          → cond a (seen_at records (slot_of S span h.place)) none ≡ seen (machine S span) (seen_store S span) h.place records
      go true qa true qb = sym (seen_named (machine S span) (seen_store S span) records qb)
      go false qa false qb = sym (seen_other (machine S span) (seen_store S span) records qb)
      go true qa false qb = let n = key_named S span h.place qa in absurd (zero≢one (cc))
      go false qa true qb = let n = named_key S span h.place qb in absurd (zero≢one (cc))

  -- ---- what the rules ask for

  module _ (below_end : h.place < room.end) where
    pub start : Start width_of S.code h.place
    start = (in_chunk S room records work A.before h A.going below_end).start

    pub standing : Ready S → Stands S h.place
    standing R = stands R start

  pub record Fitting : Type 0 where
    pub operands : h.depths.operands + 1 < 2 ^ 32
    pub iterators : h.depths.iterators + 1 < 2 ^ 32
    pub handlers : h.depths.handlers + 1 < 2 ^ 32
    pub reached : h.counts.reached + 1 < 2 ^ 64

  pub fitting : Ready S → Fitting
  fitting R =
      let s = small S room records work A.before h A.going in
      let few = R.listable.small in
      record {
        operands = omega (arith, s.operands, s.few, code_small);
        iterators = omega (arith, s.iterators, s.few, code_small);
        handlers = omega (arith, s.handlers, s.few, code_small);
        reached = omega (arith, s.few, code_small);
      }

  pub waits_room : h.waiting * 4 ≤ length work
  waits_room = let s = small S room records work A.before h A.going in omega (arith, s.waits, s.work_room)

  pub taken_fits : length work < 2 ^ 64 → h.counts.taken + 1 < 2 ^ 64
  taken_fits f = let s = small S room records work A.before h A.going in omega (arith, s.waits, s.work_room)

  module _ (U : Unseen S room h records) where
    new : New (machine S span) (seen_store S span) (item_of h) (book_of h records)
    new = record { below = U.below_end; unseen = U.unseen }

    pub leaves : Ready S → length work < 2 ^ 64 → RoomToLeave room h (next S h.place) (targets S h.place) records work
    unfolding degree next
    leaves R f = record {
      keys_room = keys_room;
      notes_room = notes_room;
      keys_behind = keys_behind;
      rises = rises;
      along = rw (front, A.going.slot) (below_mono ks h.place (next S h.place) (omega arith));
      jumps_room = omega (arith, roomy S room records work A.before h A.going new, A.before.work_room);
      clear = A.going.clear;
      operands_fit = (fitting R).operands;
      reached_fits = (fitting R).reached;
      taken_fits = taken_fits f;
    }

    -- ---- the ways out

    pub denied_turn : {a : Refusal} → rule S span h.place h.depths ≡ denies a → turn_of S room h records work ≡ stops a
    denied_turn e = turn_is (machine S span) (seen_store S span) (item_of h) (items work h.waiting) (book_of h records) (refuses (is_denied new e))

    module _ (e : rule S span h.place h.depths
        ≡ gives (after S h.place h.depths).operands (cond (falls (tag_of S h.place)) (some (after S h.place h.depths)) none)
        (jumps_to (jumped S h.place h.depths) (targets S h.place))) where
      passes : Passes (machine S span) (item_of h)
      passes = record { post = _; fall = _; jumps = _; ruled = e }

      pub bad_turn : {a : Refusal} → first_bad_jump (judge S span h.place) (jumps_to (jumped S h.place h.depths) (targets S h.place)) ≡ some a
          → turn_of S room h records work ≡ stops a
      unfolding passes
      bad_turn q = turn_is (machine S span) (seen_store S span) (item_of h) (items work h.waiting) (book_of h records) (refuses (jumps_badly new passes q))

      module _ (good : first_bad_jump (judge S span h.place) (jumps_to (jumped S h.place h.depths) (targets S h.place)) ≡ none) where
        pub entered_turn : turn_of S room h records work
            ≡ goes_on (fall_to (next S h.place) (cond (falls (tag_of S h.place)) (some (after S h.place h.depths)) none)
            (push (jumps_to (jumped S h.place h.depths) (targets S h.place)) (items work h.waiting)))
            (entered (seen_store S span) (item_of h) (after S h.place h.depths).operands (book_of h records))
        unfolding passes
        entered_turn =
            turn_is (machine S span) (seen_store S span) (item_of h) (items work h.waiting) (book_of h records)
            (enters (record { new = new; passes = passes; judged = good }))
