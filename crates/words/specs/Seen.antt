-- Records as words: the depths with which a place was seen, three words from an index on. Document 01, "Order of the
-- tests": "place that is the entry or a named target and was seen before". The operands are kept as one more, so that 0
-- says: not seen.
use Rattle.std.specs.Prelude.{cond, List, [], ◌∷◌, ℕ, ◌+◌, ◌-◌, eqb, get_or}
use Rattle.std.specs.Prelude as code
use Rattle.std.proofs.Math.Option.{Option, none, some}
use Rattle.std.proofs.lemmas.List.Edits.{sets}
use Rattle.answer.specs.declared.Depths.{Depths}

-- the cases of the code's answer
unfoldable pub seen_told : code.Option Depths → Option Depths
seen_told code.None = none
seen_told (code.Some d) = some d

-- three words from an index on: never seen, or seen with these depths
unfoldable pub seen_at : List ℕ → ℕ → Option Depths
seen_at words at =
    cond (eqb (get_or words at 0) 0) none
    (some (record {
      operands = get_or words at 0 - 1;
      iterators = get_or words (at + 1) 0;
      handlers = get_or words (at + 2) 0;
    }))

-- the words with these depths from an index on
unfoldable pub note_at : List ℕ → ℕ → Depths → List ℕ
note_at words at d = sets words at ((d.operands + 1) ∷ d.iterators ∷ d.handlers ∷ [])
