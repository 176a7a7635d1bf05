-- A chunk that was opened is walked, item by item, and judged; what was used is cleared.
use mathlib.Core.Bool.{Bool, true, false, cond}
use mathlib.Core.List.{List, [], ◌∷◌, ◌++◌, append-nil}
use mathlib.Core.Option.{none, some}
use mathlib.Core.Path.{◌≡◌, refl, sym, ap, ◌∙◌}
use Prim.Native.Nat.{ℕ, ◌+◌, ◌-◌, ◌*◌, ◌≤◌, ◌<◌}
use native.Mathlib.Decide.{dec_lt}
use native.Mathlib.Omega.{arith}
use borrow.Author.Tests.{lt-ltb, le-ltb}
use lib.ListN.{length, get_or, set, take, drop, replicate, length-replicate, length-append, length-drop, get_or-append}
use lib.Seq.{drop-length, ext_get_or, get_or-append-add, get_or-drop}
use Rattle.opening.specs.declared.Room.{Room}
use Rattle.opening.specs.Opens.{Readies}
use Rattle.code.specs.Layout.{tag_at}
use Rattle.code.specs.Width.{width_of}
use Rattle.listing.proofs.Before.{before_start, before_stop, before_few}
use Rattle.opening.specs.Ready.{Listable, Ready}
use Rattle.opening.specs.Records.{keys, laid}
use Rattle.opening.proofs.Kept.{few_targets}
use Rattle.opening.proofs.Targets.{keys_rise, few_keys}
use Rattle.order.specs.Order.{Rising}
use Rattle.pools.specs.Sizes.{max_code}
use Rattle.pools.specs.Good.{max_targets}
use Rattle.answer.specs.declared.Refusal.{Refusal}
use Rattle.std.specs.Prelude.{Result, Ok, Err}
use Rattle.answer.specs.Answer.{told, unless}
use Rattle.demand.proofs.Demand.{Height, above, within, within_or_above}
use Rattle.answer.proofs.Apart.{zero≢one}
use Rattle.demand.specs.Chunk.{passes, fails, height_test, judge_chunk}
use Rattle.demand.specs.BeforeWalk.{BeforeWalk, redeclared}
use Rattle.demand.specs.Span.{Span, chunk_starts, T, E}
use Rattle.rules.specs.Edges.{falls, degree}
use Rattle.machine.specs.Lists.{◌∈◌, here, there, sum_of}
use Rattle.demand.proofs.Inside.{inside, entry_starts}
use Rattle.rules.specs.Script.{Script}
use Rattle.machine.specs.Walk.{stops}
use Rattle.words.specs.Stack.{Clear}
use Rattle.walk.specs.declared.Counts.{Counts}
use Rattle.walk.specs.declared.Hand.{Hand}
use Rattle.walk.specs.Ends.{zeroed, Abandoned, Closed}
use Rattle.walk.specs.Turn.{room_span, turn_of, AtItem, GoesOn, Ends}
use Rattle.walk.specs.Hand.{first_hand}
use Rattle.walk.proofs.Chunks.{begins, goes, last_fit, Few, few, ended, refuses_so}
use Rattle.walk.proofs.Moment.{fit, small}
use Rattle.walk.proofs.Store.{laid_fit, behind_zeros}

-- ---- zeros

zeros_at : (n i : ℕ) → ◌≡◌ {A = ℕ} (get_or (replicate n 0) i 0) 0
zeros_at n i = behind_zeros [] n i (omega arith)

-- words that are zero from a place on are zero once the words before it are cleared
pub cleared_all : (words : List ℕ) (used : ℕ) → used ≤ length words → ((i : ℕ) → used ≤ i → get_or words i 0 ≡ 0)
    → zeroed used words ≡ replicate (length words) 0
cleared_all words used l z =
    ext_get_or 0 (zeroed used words) (replicate (length words) 0)
    (omega (arith, length-append (replicate {A = ℕ} used 0) (drop used words), length-replicate {A = ℕ} used 0, length-drop used words, length-replicate {A = ℕ} (length words) 0))
    (λ i h. word i ∙ sym (zeros_at (length words) i))
  where
    word : (i : ℕ) → ◌≡◌ {A = ℕ} (get_or (zeroed used words) i 0) 0
    word i = go (dec_lt i used)
      where
        go : Dec (i < used) → ◌≡◌ {A = ℕ} (get_or (zeroed used words) i 0) 0
        go (yes h) =
            get_or-append (replicate used 0) (drop used words) 0 i (omega (arith, length-replicate {A = ℕ} used 0)) ∙ zeros_at used i
        go (no h) =
            let same : length (replicate {A = ℕ} used 0) + (i - used) ≡ i = omega (arith, length-replicate {A = ℕ} used 0) in
            let back : used + (i - used) ≡ i = omega arith in
            (rw same at (get_or-append-add (replicate used 0) (drop used words) (i - used) 0)) ∙ get_or-drop used words (i - used) 0 ∙ rw back (z i (omega arith))

pub zero_words : (words : List ℕ) → Clear words 0 → words ≡ replicate (length words) 0
zero_words words c = cleared_all words 0 (omega arith) (λ i h. c.clear i (omega arith))

-- ---- how many edges there can be

sum_most : (f : ℕ → ℕ) (xs : List ℕ) → ((x : ℕ) → x ∈ xs → f x ≤ max_targets + 1) → sum_of f xs ≤ length xs * (max_targets + 1)
unfolding sum_of
sum_most f [] h = omega arith
sum_most f (x ∷ xs) h = let rest = sum_most f xs (λ y m. h y (there m)) in omega (arith, h x (here refl))

sum_none : (f : ℕ → ℕ) → sum_of f [] ≤ max_code * (max_targets + 1)
unfolding sum_of
sum_none f = omega arith

pub few_edges : (S : Script) → Ready S → (span : Span) {words rooms : ℕ} → BeforeWalk S span words rooms → E S span ≤ max_code * (max_targets + 1)
unfolding E degree
few_edges S R span B = go (dec_lt span.entry span.end)
  where
    at_most_one : (b : Bool) → cond b 1 0 ≤ 1
    at_most_one true = omega arith
    at_most_one false = omega arith

    L : Listable S.code S.pools.switches S.pools.cases S.pools.ranges
    L = R.listable

    go : Dec (span.entry < span.end) → sum_of (degree S) (chunk_starts S span) ≤ max_code * (max_targets + 1)
    go (yes h) =
        let start = (inside S span (entry_starts S span B h)).start in
        let most = sum_most (degree S) (chunk_starts S span) (λ p m.
        let s = (before_start width_of S.code span.end start m).start in
        omega (arith, few_targets S L s, at_most_one (falls (tag_at S.code p)))) in
        omega (arith, before_few width_of S.code span.end span.entry, L.small)
    go (no h) =
        let none : chunk_starts S span ≡ [] = before_stop width_of S.code span.end span.entry (rw (le-ltb span.entry span.end (omega arith)) refl) in
        rw none (sum_none (degree S))

-- ---- a chunk opened

-- the walk has come to an item, in so many words of records and of work
pub record Walking (S : Script) (words rooms : ℕ) (room : Room) (h : Hand) (records work : List ℕ) : Type 0 where
  pub at : AtItem S room h records work
  pub records_long : length records ≡ words
  pub work_long : length work ≡ rooms

module _ (S : Script) (R : Ready S) (words rooms : ℕ) where
  module _ {entry end : ℕ} {room : Room} {records work : List ℕ}
      (O : Readies S (record { entry = entry; end = end; declared = 0 }) words rooms room records work) where
    pub records_long : length records ≡ words
    records_long = ap length O.records_laid ∙ (laid_fit S (record { entry = entry; end = end; declared = 0 }) words O.records_room).as_long

    pub work_long : length work ≡ rooms
    work_long = ap length O.work_cleared ∙ length-replicate rooms 0

    same_span : room_span room ≡ record { entry = entry; end = end; declared = 0 }
    same_span = rw (O.same_entry, O.same_end) refl

    before : BeforeWalk S (room_span room) words rooms
    before = rw same_span (record {
      decoded = R.listable.decoded;
      chain_there = λ p s has. ((R.chain_there p s).chain has).entry;
      switch_there = λ p s has. ((R.listable.switch_there p s).switch has).entry;
      chains_within = R.chains_within;
      switches_within = R.switches_within;
      in_order = O.in_code.in_order;
      in_code = O.in_code.in_code;
      aligned = O.in_code.aligned;
      records_room = O.records_room;
      work_room = O.work_room;
    })

    based : room.base ≡ 1 + T S (room_span room)
    based = rw same_span O.all_named

    keyed : room.keys ≡ length (keys S (room_span room))
    keyed = rw same_span O.all_keys

    laid_so : records ≡ laid S (room_span room) words
    laid_so = rw same_span O.records_laid

    pub opened_front : take room.keys records ≡ keys S (room_span room)
    opened_front = rw (keyed, laid_so) (laid_fit S (room_span room) words before.records_room).front

    pub opened_rises : Rising (take room.keys records)
    opened_rises = rw opened_front (keys_rise S (room_span room))

    pub opened_keys : room.keys ≤ length records
    opened_keys = omega (arith, keyed, few_keys S (room_span room), before.records_room, records_long)

    first_walking : {h : Hand} → h ≡ first_hand (take room.keys records) room.entry → Walking S words rooms room h records work
    first_walking {h} e = record {
      at = record {
        before = rw (records_long, work_long) before;
        base = based;
        keyed = keyed;
        going =
            begins S room words rooms before records work records_long laid_so (record { clear = λ i k. rw O.work_cleared (zeros_at rooms i) }) h (rw opened_front at e);
      };
      records_long = records_long;
      work_long = work_long;
    }

    -- the same, in the words' own lengths
    pub first_walking_here : {h : Hand} → h ≡ first_hand (take room.keys records) room.entry → Walking S (length records) (length work) room h records work
    first_walking_here e = record { at = (first_walking e).at; records_long = refl; work_long = refl }

    pub judged_here : (declared : ℕ) → judge_chunk S (redeclared (room_span room) declared) words rooms
        ≡ judge_chunk S (record { entry = entry; end = end; declared = declared }) words rooms
    judged_here declared = rw (O.same_entry, O.same_end) refl

-- ---- one item after the other

module _ {S : Script} {words rooms : ℕ} where
  module _ {room : Room} {h : Hand} {records work : List ℕ} (W : Walking S words rooms room h records work) where
    pub lent : BeforeWalk S (room_span room) words rooms
    lent = rw (W.records_long, W.work_long) at W.at.before

    pub walking_on : {next : Hand} {records' work' : List ℕ} → GoesOn S room (turn_of S room h records work) next records' work'
        → length records' ≡ words → length work' ≡ rooms → Walking S words rooms room next records' work' × (next.counts.taken ≡ h.counts.taken + 1)
    walking_on {next} {records'} {work'} g l m =
        let on = goes S room words rooms lent h records work W.records_long W.at.going next records' work' l g in (
          record {
            at = record { before = rw (l, m) lent; base = W.at.base; keyed = W.at.keyed; going = on.0 };
            records_long = l;
            work_long = m;
          },
          on.1,
        )

    pub few_taken : h.counts.taken < rooms
    few_taken =
        let s = small S room records work W.at.before h W.at.going in
        omega (arith, s.waits, s.work_room, W.work_long)

    pub used_room : room.base * 4 ≤ words
    used_room = omega (arith, W.at.base, lent.records_room)

    pub waits_within : h.waiting * 4 ≤ rooms
    waits_within =
        let s = small S room records work W.at.before h W.at.going in
        omega (arith, s.waits, s.work_room, W.work_long)

    -- a refusal, and what was used cleared
    pub stopped_zero : {records₁ work₁ records' work' : List ℕ} → records₁ ≡ records → work₁ ≡ work
        → Abandoned (room.base * 4) (h.waiting * 4) records₁ work₁ records' work'
        → (records' ≡ replicate words 0) × (work' ≡ replicate rooms 0)
    stopped_zero e f left =
        let a = rw (e, f) at left in
        let behind = (fit S room records work W.at.before h W.at.going).behind in (
          a.records_zeroed ∙ cleared_all records (room.base * 4) (omega (arith, W.records_long, used_room)) (λ i k. behind i (omega (arith, W.at.base)))
              ∙ ap (λ (n : ℕ). replicate n 0) W.records_long,
          a.work_zeroed ∙ cleared_all work (h.waiting * 4) (omega (arith, W.work_long, waits_within)) (λ i k. W.at.going.clear.clear i k)
              ∙ ap (λ (n : ℕ). replicate n 0) W.work_long,
        )

    pub stopped_judged : {a : Refusal} → turn_of S room h records work ≡ stops a → (declared : ℕ) → judge_chunk S (redeclared (room_span room) declared) words rooms ≡ fails a
    stopped_judged e = refuses_so S room words rooms lent h records work W.records_long W.at.going e

    -- none is left
    module _ {last : Counts} {records' work' : List ℕ} (g : Ends S room (turn_of S room h records work) last records' work') where
      pub ended_judged : (declared : ℕ) → judge_chunk S (redeclared (room_span room) declared) words rooms
          ≡ unless fails (height_test last.height declared) (passes last.height last.reached last.taken)
      ended_judged = ended S room words rooms lent h records work W.records_long W.at.going last records' work' g

      pub ended_few : Few S room words rooms lent h records work W.records_long W.at.going last records' work' g
      ended_few = few S room words rooms lent h records work W.records_long W.at.going last records' work' g

      pub ended_records : length records' ≡ words → {records'' : List ℕ} → records'' ≡ zeroed (room.base * 4) records' → records'' ≡ replicate words 0
      ended_records l e =
          let behind = (last_fit S room words rooms lent h records work W.records_long W.at.going last records' work' g).behind in
          e ∙ cleared_all records' (room.base * 4) (omega (arith, l, used_room)) (λ i k. behind i (omega (arith, W.at.base))) ∙ ap (λ (n : ℕ). replicate n 0) l

      pub ended_work : length work' ≡ rooms → work' ≡ replicate rooms 0
      ended_work m = zero_words work' g.clear ∙ ap (λ (n : ℕ). replicate n 0) m

-- ---- a chunk closed

module _ {used height declared chunk : ℕ} {heights records : List ℕ} {r : Result (Unit {0}) Refusal} {heights' records' : List ℕ}
    (k : Closed used height declared chunk heights records r heights' records') where
  -- it passes, where the height is not above the declared one
  pub record ClosedWell : Type 0 where
    pub low : height_test height declared ≡ none
    pub stored : heights' ≡ set heights chunk height

  pub closed_well : r ≡ Ok tt → ClosedWell
  unfolding told
  closed_well e = go (within_or_above height declared)
    where
      passed : height_test height declared ≡ none
      passed = sym k.answer ∙ ap told e

      go : Height height declared → ClosedWell
      go (above l q) = absurd (zero≢one (cc (passed, q)))
      go (within l q) = record { low = q; stored = k.stored ∙ rw (le-ltb declared height l) refl }

  -- it is refused, where it is above
  pub record ClosedAbove (a : Refusal) : Type 0 where
    pub high : height_test height declared ≡ some a
    pub kept : heights' ≡ heights

  pub closed_above : {a : Refusal} → r ≡ Err a → ClosedAbove a
  unfolding told
  closed_above {a} e = go (within_or_above height declared)
    where
      refused : height_test height declared ≡ some a
      refused = sym k.answer ∙ ap told e

      go : Height height declared → ClosedAbove a
      go (above l q) = record { high = refused; kept = k.stored ∙ rw (lt-ltb declared height l) refl }
      go (within l q) = absurd (zero≢one (cc (refused, q)))
