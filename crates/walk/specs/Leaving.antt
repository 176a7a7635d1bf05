-- What leaving an instruction builds on and comes to. Document 01, "Order of the tests": "then edges, each target
-- tested for 9, then 10, and the fall-through pushed last".
use Rattle.std.specs.Prelude.{true, false, ◌&&◌, cond, List, ◌∷◌, map, ◌≡◌, ℕ, ◌+◌, ◌*◌, ◌^◌, ◌≤◌, ◌<◌, ltb, eqb, length, get_or, take}
use Rattle.answer.specs.declared.Depths.{Depths}
use Rattle.answer.specs.Depths.{Item}
use Rattle.opening.specs.declared.Room.{Room}
use Rattle.order.specs.Order.{Rising, below}
use Rattle.ruling.specs.declared.Edges.{Edges}
use Rattle.words.specs.Seen.{note_at}
use Rattle.words.specs.Stack.{items, put_all, Clear}
use Rattle.walk.specs.declared.Counts.{Counts}
use Rattle.walk.specs.declared.Hand.{Hand}
use Rattle.walk.specs.declared.Turn.{Turn}
use Rattle.walk.specs.Hand.{item_of, fallen, entered_hand}

-- a jump to each target, with the same depths
abbrev pub jumps_to : Depths → List ℕ → List Item
jumps_to d targets = map (λ (t : ℕ). record { place = t; depths = d }) targets

-- the jumps to these targets were pushed where so many items waited
pub record Pushed (targets : List ℕ) (d : Depths) (waiting : ℕ) (work : List ℕ) (r : ℕ) (work' : List ℕ) : Type 0 where
  pub count : r ≡ waiting + length targets
  pub pushed : work' ≡ put_all work waiting (jumps_to d targets)

-- the item pushed last was taken, and its words cleared
pub record TakenBack (keys : List ℕ) (h : Hand) (work : List ℕ) (next : Hand) (work' : List ℕ) : Type 0 where
  pub waits : items work h.waiting ≡ item_of next ∷ items work' next.waiting
  pub counts : next.counts ≡ h.counts
  pub slot : next.slot ≡ below keys next.place
  pub clear : Clear work' next.waiting

-- there was none
pub record NoneBack (h : Hand) (work : List ℕ) (last : Counts) (work' : List ℕ) : Type 0 where
  pub waits : h.waiting ≡ 0
  pub counts : last ≡ h.counts
  pub words : work' ≡ work

abbrev pub BackOrDone : (keys : List ℕ) → Hand → (work : List ℕ) → Turn → (work' : List ℕ) → Type 0
BackOrDone keys h work (Turn.Next next) work' = TakenBack keys h work next work'
BackOrDone keys h work (Turn.Done last) work' = NoneBack h work last work'

-- the words with the depths in hand noted, where the place is a key
abbrev pub noted : Room → Hand → List ℕ → List ℕ
noted room h records =
    cond (ltb h.slot room.keys && eqb (get_or records h.slot 0) h.place)
    (note_at records (room.base + h.slot * 3) h.depths) records

-- what leaving an instruction builds on: room for its note and its jumps, a pointer that is not past the next place,
-- and numbers that fit
pub record RoomToLeave (room : Room) (h : Hand) (next : ℕ) (targets records work : List ℕ) : Type 0 where
  pub keys_room : room.keys ≤ length records
  pub notes_room : room.base + room.keys * 3 ≤ length records
  pub keys_behind : room.keys ≤ room.base
  pub rises : Rising (take room.keys records)
  pub along : h.slot ≤ below (take room.keys records) next
  pub jumps_room : (h.waiting + length targets) * 4 ≤ length work
  pub clear : Clear work h.waiting
  pub operands_fit : h.depths.operands + 1 < 2 ^ 32
  pub reached_fits : h.counts.reached + 1 < 2 ^ 64
  pub taken_fits : h.counts.taken + 1 < 2 ^ 64

-- what it comes to: the depths noted, the jumps pushed, and the next place in hand or an item taken back
module _ (room : Room) (h : Hand) (edges : Edges) (targets records work : List ℕ) where
  -- the hand once the instruction is entered and its jumps wait, and the words of work with them
  abbrev entered : Hand
  entered = entered_hand h edges.after.operands (h.waiting + length targets)

  abbrev pushed : List ℕ
  pushed = put_all work h.waiting (jumps_to edges.jumped targets)

  pub record InstructionLeft (r : Turn) (records' work' : List ℕ) : Type 0 where
    pub words : records' ≡ noted room h records
    pub goes : edges.falls ≡ true
        → (r ≡ Turn.Next (fallen (take room.keys records) entered edges.next edges.after)) × (work' ≡ pushed)
    pub back : edges.falls ≡ false → BackOrDone (take room.keys records) entered pushed r work'
