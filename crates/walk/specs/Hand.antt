-- The item in hand, with its book, as the code keeps them. Document 01, "Order of the tests": "The walk starts with
-- (entry, 0, 0, 0) and takes the work item pushed last".
use Rattle.std.specs.Prelude.{List, ℕ, ◌+◌, max}
use Rattle.answer.specs.declared.Depths.{Depths}
use Rattle.answer.specs.Depths.{zeros, Item}
use Rattle.machine.specs.Walk.{Book}
use Rattle.order.specs.Order.{below}
use Rattle.walk.specs.declared.Counts.{Counts}
use Rattle.walk.specs.declared.Hand.{Hand}

abbrev pub item_of : Hand → Item
item_of h = record { place = h.place; depths = h.depths }

abbrev pub book_with : Counts → (records : List ℕ) → Book (List ℕ)
book_with counts records =
    record { store = records; reached = counts.reached; taken = counts.taken; height = counts.height }

abbrev pub book_of : Hand → (records : List ℕ) → Book (List ℕ)
book_of h records = book_with h.counts records

-- the first item in hand
abbrev pub first_hand : (keys : List ℕ) → (entry : ℕ) → Hand
first_hand keys entry = record {
  place = entry;
  depths = zeros;
  slot = below keys entry;
  waiting = 0;
  counts = record { reached = 0; taken = 0; height = 0 };
}

-- control falls through to the next place
abbrev pub fallen : (keys : List ℕ) → Hand → ℕ → Depths → Hand
fallen keys h next d =
    record { place = next; depths = d; slot = below keys next; waiting = h.waiting; counts = h.counts }

-- an item that is dropped, and one that enters an instruction which leaves so many operands, where so many items wait
-- then
abbrev pub dropped_hand : Hand → Hand
dropped_hand h = record {
  place = h.place;
  depths = h.depths;
  slot = h.slot;
  waiting = h.waiting;
  counts = record { reached = h.counts.reached; taken = h.counts.taken + 1; height = h.counts.height };
}

abbrev pub entered_hand : Hand → (post waiting : ℕ) → Hand
entered_hand h post waiting = record {
  place = h.place;
  depths = h.depths;
  slot = h.slot;
  waiting = waiting;
  counts = record {
    reached = h.counts.reached + 1;
    taken = h.counts.taken + 1;
    height = max h.counts.height (max h.depths.operands post);
  };
}
