-- A machine, which is a chunk freed of bytes and tags, and the walk over it, item by item, with what it counts. `R` is
-- the type of refusals, of which the walk knows nothing. Document 01: "The walk starts with (entry, 0, 0, 0) and takes
-- the work item pushed last: place at or past the end, 13; place that is the entry or a named target and was seen
-- before, dropped if all three depths agree, else 11; rights [...]; 12; 15 for ITER_DROP, 16 for POP_HANDLER; then
-- edges, each target tested for 9, then 10, and the fall-through pushed last." What it says of one instruction is a
-- field of the machine, and the order of items and tests is `turn`.
use Rattle.std.specs.Prelude.{Bool, true, false, List, ◌∷◌, [], ℕ, zero, suc, ◌+◌, max, ltb, eqb}
use Rattle.std.proofs.Math.Option.{Option, none, some}
use Rattle.answer.specs.declared.Depths.{Depths}
use Rattle.answer.specs.Depths.{zeros, agree, Item}

-- What the rule of one instruction says at some depths. Either it denies, with a refusal: rights; 12; 15 and 16; 13 of
-- a plain instruction whose successor is not before the end. Or it gives the operands just after the instruction, the
-- depths that fall through, if control does, and the jumps in the order of their tests, with the depths at each target.
pub data Ruling (R : Type 0) : Type 0 where
  denies : R → Ruling R
  gives : (post : ℕ) (fall : Option Depths) (jumps : List Item) → Ruling R

pub record Machine (R : Type 0) : Type 0 where
  pub entry : ℕ
  pub end : ℕ
  -- an instruction starts here, at or after the entry
  pub start : ℕ → Bool
  -- where the instruction after this one starts
  pub next : ℕ → ℕ
  -- the entry, and every target that an instruction of the chunk names
  pub named : ℕ → Bool
  pub rule : ℕ → Depths → Ruling R
  -- the tests of a jump from a place to a target: 9, then 10
  pub judge : ℕ → ℕ → Option R
  -- 13
  pub off : R
  -- 11 at a place: the depths expected there, and those found
  pub clash : ℕ → Depths → Depths → R

-- The item that the walk starts with.
abbrev pub origin : {R : Type 0} → Machine R → Item
origin M = record { place = M.entry; depths = zeros }

-- What falls through to the next place, if control does, in front of other items.
unfoldable pub fall_to : ℕ → Option Depths → List Item → List Item
fall_to next none items = items
fall_to next (some d) items = record { place = next; depths = d } ∷ items

-- Where the depths of the places entered are kept. `S` is what the store holds at a moment.
pub record Store (S : Type 0) : Type 0 where
  pub recall : ℕ → S → Option Depths
  pub note : Item → S → S

-- What one item hands to the next: the store, the instructions entered, the items taken, and the largest number of
-- operands at an instruction entered or just after it.
pub record Book (S : Type 0) : Type 0 where
  pub store : S
  pub reached : ℕ
  pub taken : ℕ
  pub height : ℕ

-- The book before the first item, after an item that is dropped, and after one that enters an instruction, which leaves
-- `post` operands.
abbrev pub blank : {S : Type 0} → S → Book S
blank s = record { store = s; reached = 0; taken = 0; height = 0 }

abbrev pub dropped : {S : Type 0} → Book S → Book S
dropped b = record { store = b.store; reached = b.reached; taken = b.taken + 1; height = b.height }

abbrev pub entered : {S : Type 0} → Store S → Item → ℕ → Book S → Book S
entered K it post b = record {
  store = K.note it b.store;
  reached = b.reached + 1;
  taken = b.taken + 1;
  height = max b.height (max it.depths.operands post);
}

-- What taking an item comes to: the work list and the book to go on with, or a refusal.
pub data Turn (R S : Type 0) : Type 0 where
  goes_on : List Item → Book S → Turn R S
  stops : R → Turn R S

-- What a run comes to: accepted; refused, with the number of items taken, the refused one among them; or unfinished,
-- with the work list.
pub data Run (R S : Type 0) : Type 0 where
  accepted : Book S → Run R S
  refused : R → ℕ → Run R S
  unfinished : List Item → Book S → Run R S

-- Jumps pushed in order: the last ends on top.
unfoldable pub push : List Item → List Item → List Item
push [] w = w
push (j ∷ js) w = push js (j ∷ w)

-- The refusal of the first jump whose target a test refuses.
unfoldable pub first_bad_jump : {R : Type 0} → (ℕ → Option R) → List Item → Option R
first_bad_jump test [] = none
first_bad_jump test (j ∷ js) = elim (test j.place) [ some r ↦ some r | none ↦ first_bad_jump test js ]

module _ {R S : Type 0} (M : Machine R) (K : Store S) where
  -- The depths with which a place was seen: asked of the named places only.
  unfoldable pub seen : ℕ → S → Option Depths
  seen p s = elim (M.named p) [ true ↦ K.recall p s | false ↦ none ]

  -- One item, from the top of the work list, with `w` below it: each test in its turn.
  unfoldable pub turn : Item → List Item → Book S → Turn R S
  turn it w b =
      elim (ltb it.place M.end) [
        | false ↦ stops M.off
        | true ↦ elim (seen it.place b.store) [
          | some d ↦ elim (agree d it.depths) [
            | true ↦ goes_on w (dropped b)
            | false ↦ stops (M.clash it.place d it.depths)
          ]
          | none ↦ elim (M.rule it.place it.depths) [
            | denies r ↦ stops r
            | gives post fall jumps ↦ elim (first_bad_jump (M.judge it.place) jumps) [
              | some r ↦ stops r
              | none ↦ goes_on (fall_to (M.next it.place) fall (push jumps w)) (entered K it post b)
            ]
          ]
        ]
      ]

  -- As many items as there are units to spend.
  unfoldable pub run : ℕ → List Item → Book S → Run R S
  run zero [] b = accepted b
  run zero (it ∷ w) b = unfinished (it ∷ w) b
  run (suc n) [] b = accepted b
  run (suc n) (it ∷ w) b = elim (turn it w b) [ goes_on w' b' ↦ run n w' b' | stops r ↦ refused r (b.taken + 1) ]

  -- From the entry, with the store as it is.
  abbrev pub walk : ℕ → S → Run R S
  walk n s = run n (origin M ∷ []) (blank s)

-- The plainest store: the log of all items that entered, the last one first. The theorems are about the walk over the
-- log, from an empty one; any store that recalls what the log recalls gives the same answers.
abbrev pub Log : Type 0
Log = List Item

unfoldable pub lookup : ℕ → Log → Option Depths
lookup p [] = none
lookup p (it ∷ l) = elim (eqb p it.place) [ true ↦ some it.depths | false ↦ lookup p l ]

abbrev pub log : Store Log
log = record { recall = lookup; note = λ it l. it ∷ l }
