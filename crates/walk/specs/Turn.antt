-- One turn in the code's words and in those of the walk. Document 01, "Order of the tests": "takes the work item pushed
-- last: [...]".
use Rattle.std.specs.Prelude.{List, [], ◌∷◌, ◌≡◌, ℕ, Result, Ok, Err, ◌+◌, ◌<◌, length}
use Rattle.std.proofs.Math.Option.{none}
use Rattle.answer.specs.declared.Refusal.{Refusal}
use Rattle.demand.specs.BeforeWalk.{BeforeWalk}
use Rattle.demand.specs.Chunk.{machine}
use Rattle.demand.specs.Span.{Span, T}
use Rattle.machine.specs.Walk.{goes_on, stops, unfinished, seen, turn, walk}
use Rattle.machine.specs.Walk as definition
use Rattle.opening.specs.declared.Room.{Room}
use Rattle.opening.specs.Records.{keys, laid}
use Rattle.order.specs.Order.{below}
use Rattle.rules.specs.Script.{Script}
use Rattle.words.specs.Stack.{items, Clear}
use Rattle.walk.specs.declared.Counts.{Counts}
use Rattle.walk.specs.declared.Hand.{Hand}
use Rattle.walk.specs.declared.Turn.{Turn}
use Rattle.walk.specs.Hand.{item_of, book_with, book_of}
use Rattle.walk.specs.Records.{seen_store}

-- the chunk of the code's struct; a walk does not look at the declared height
abbrev pub room_span : Room → Span
room_span room = record { entry = room.entry; end = room.end; declared = 0 }

-- a turn of the walk over words
abbrev pub WalkTurn : Type 0
WalkTurn = definition.Turn Refusal (List ℕ)

module _ (S : Script) (room : Room) where
  -- one turn of the walk from the item in hand
  abbrev pub turn_of : Hand → (records work : List ℕ) → WalkTurn
  turn_of h records work =
      turn (machine S (room_span room)) (seen_store S (room_span room)) (item_of h)
      (items work h.waiting) (book_of h records)

  -- the walk has come to the item in hand, with these words of records and of work
  pub record WalkAt (h : Hand) (records work : List ℕ) : Type 0 where
    pub ran : walk (machine S (room_span room)) (seen_store S (room_span room)) h.counts.taken
        (laid S (room_span room) (length records))
        ≡ unfinished (item_of h ∷ items work h.waiting) (book_of h records)
    pub slot : h.slot ≡ below (keys S (room_span room)) h.place
    pub clear : Clear work h.waiting

  -- what taking an item builds on: what the chunk's opening left, and the walk so far
  pub record AtItem (h : Hand) (records work : List ℕ) : Type 0 where
    pub before : BeforeWalk S (room_span room) (length records) (length work)
    pub base : room.base ≡ 1 + T S (room_span room)
    pub keyed : room.keys ≡ length (keys S (room_span room))
    pub going : WalkAt h records work

  -- the item is before the end, and its place was not seen
  pub record Unseen (h : Hand) (records : List ℕ) : Type 0 where
    pub below_end : h.place < room.end
    pub unseen : seen (machine S (room_span room)) (seen_store S (room_span room)) h.place records ≡ none

  -- what a turn comes to: the next item in hand, with what waits and what is noted in the words,
  pub record GoesOn (t : WalkTurn) (h : Hand) (records work : List ℕ) : Type 0 where
    pub turned : t ≡ goes_on (item_of h ∷ items work h.waiting) (book_of h records)
    pub slot : h.slot ≡ below (keys S (room_span room)) h.place
    pub clear : Clear work h.waiting

  -- no item is left,
  pub record Ends (t : WalkTurn) (last : Counts) (records work : List ℕ) : Type 0 where
    pub turned : t ≡ goes_on [] (book_with last records)
    pub clear : Clear work 0

  -- or a refusal, and the words are as they were
  pub record Stops (t : WalkTurn) (a : Refusal) (records work records' work' : List ℕ) : Type 0 where
    pub turned : t ≡ stops a
    pub same_records : records' ≡ records
    pub same_work : work' ≡ work

  abbrev pub SameTurn : WalkTurn → (records work : List ℕ) → Result Turn Refusal → (records' work' : List ℕ) → Type 0
  SameTurn t records work (Ok (Turn.Next next)) records' work' = GoesOn t next records' work'
  SameTurn t records work (Ok (Turn.Done last)) records' work' = Ends t last records' work'
  SameTurn t records work (Err a) records' work' = Stops t a records work records' work'

  abbrev pub ItemTaken : Hand → (records work : List ℕ) → Result Turn Refusal → (records' work' : List ℕ) → Type 0
  ItemTaken h records work = SameTurn (turn_of h records work) records work
