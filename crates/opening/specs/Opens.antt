-- What opening a chunk comes to: a refusal, with both buffers cleared, or room for its walk, with its keys in records.
-- Document 01, "Order of the tests": "A chunk: 7; 8 if the entry is neither a start nor the code's length; room for
-- records, work".
use Rattle.std.specs.Prelude.{cond, List, ◌≡◌, ℕ, ◌+◌, ◌*◌, ◌≤◌, ltb, Result, Ok, Err, length, take, replicate}
use Rattle.std.proofs.Math.Option.{Option, none, some}
use Rattle.answer.specs.declared.Buffer.{Buffer}
use Rattle.answer.specs.declared.Buffer.TheVariants.{Marks, Heights, Records, Work}
use Rattle.answer.specs.declared.Refusal.{Refusal}
use Rattle.demand.specs.Chunk.{open_test}
use Rattle.demand.specs.Span.{Span, InCode, T, E}
use Rattle.order.specs.Order.{in_order}
use Rattle.rules.specs.Script.{Script}
use Rattle.opening.specs.declared.Room.{Room}
use Rattle.opening.specs.Listing.{fronted}
use Rattle.opening.specs.Records.{keys, laid}

-- the number that kind 3 gives a buffer
abbrev pub number : Buffer → ℕ
number Marks = 1
number Heights = 2
number Records = 3
number Work = 4

-- kind 3 of one buffer
unfoldable pub lent_test : (needed lent : ℕ) → Buffer → Option Refusal
lent_test needed lent buffer = cond (ltb lent needed) (some (Refusal.NoRoom needed (number buffer))) none

-- the first words put in order, r of them left, and nothing else in either buffer
pub record KeysLaid (count : ℕ) (records work : List ℕ) (r : ℕ) (records' work' : List ℕ) : Type 0 where
  pub counted : r ≡ length (in_order (take count records))
  pub in_front : records' ≡ fronted (length records) (in_order (take count records))
  pub cleared : work' ≡ replicate (length work) 0

-- where so many words of records and of work are lent
module _ (S : Script) (span : Span) (lent-records lent-work : ℕ) where
  pub record Refuses (answer : Refusal) (records' work' : List ℕ) : Type 0 where
    pub tested : open_test S span lent-records lent-work ≡ some answer
    pub records_cleared : records' ≡ replicate lent-records 0
    pub work_cleared : work' ≡ replicate lent-work 0

  pub record Readies (room : Room) (records' work' : List ℕ) : Type 0 where
    pub same_entry : room.entry ≡ span.entry
    pub same_end : room.end ≡ span.end
    pub all_named : room.base ≡ 1 + T S span
    pub all_keys : room.keys ≡ length (keys S span)
    pub in_code : InCode S.code span.entry span.end
    pub records_room : 4 * (1 + T S span) ≤ lent-records
    pub work_room : 4 * (1 + E S span) ≤ lent-work
    pub records_laid : records' ≡ laid S span lent-records
    pub work_cleared : work' ≡ replicate lent-work 0

  abbrev pub OpenedAs : Result Room Refusal → (records' work' : List ℕ) → Type 0
  OpenedAs (Ok room) records' work' = Readies room records' work'
  OpenedAs (Err refusal) records' work' = Refuses refusal records' work'
