-- What records hold while a chunk is walked: the places that are named, in order and each once, and behind them, three
-- words for each, the depths with which it was seen. Document 01, "Flat pools and sizes": "records, 4 × (1 + T)";
-- "Order of the tests": "place that is the entry or a named target and was seen before".
use Rattle.std.specs.Prelude.{List, ◌∷◌, ◌++◌, ℕ, ◌-◌, length, replicate}
use Rattle.demand.specs.Chunk.{all_targets}
use Rattle.demand.specs.Span.{Span, chunk_starts}
use Rattle.order.specs.Order.{in_order}
use Rattle.rules.specs.Script.{Script}

module _ (S : Script) (span : Span) where
  -- the entry and all targets
  abbrev pub named : List ℕ
  named = span.entry ∷ all_targets S (chunk_starts S span)

  -- each of them once, rising
  unfoldable pub keys : List ℕ
  keys = in_order named

  -- so many words before the first item is taken: the keys, and nothing seen
  unfoldable pub laid : ℕ → List ℕ
  laid words = keys ++ replicate (words - length keys) 0
