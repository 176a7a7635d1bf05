-- What records hold while a chunk is walked: behind the keys, three words for each of them, the depths with which it
-- was seen. Document 01, "Flat pools and sizes": "records, 4 × (1 + T)"; "Order of the tests": "and was seen before".
use Rattle.std.specs.Prelude.{cond, List, ℕ, ◌+◌, ◌*◌}
use Rattle.code.specs.Layout.{among}
use Rattle.demand.specs.Span.{Span, T}
use Rattle.machine.specs.Walk.{Store}
use Rattle.opening.specs.Records.{keys}
use Rattle.order.specs.Order.{below}
use Rattle.rules.specs.Script.{Script}
use Rattle.words.specs.Seen.{seen_at, note_at}

module _ (S : Script) (span : Span) where
  -- where the depths of a place stand
  unfoldable pub slot_of : ℕ → ℕ
  slot_of p = 1 + T S span + below (keys S span) p * 3

  -- the words as a store of what was seen at the named places
  abbrev pub seen_store : Store (List ℕ)
  seen_store = record {
    recall = λ p words. seen_at words (slot_of p);
    note = λ it words. cond (among it.place (keys S span)) (note_at words (slot_of it.place) it.depths) words;
  }
