-- Opening a chunk looks at nothing of a script but its code and its switches, with their cases and ranges.
use mathlib.Core.List.{List, [], ◌∷◌, ◌++◌}
use mathlib.Core.Path.{◌≡◌, refl, ap, ◌∙◌}
use Prim.Native.Nat.{ℕ}
use lib.ListN.{length}
use Rattle.std.specs.Prelude.{Result, Ok, Err}
use Rattle.answer.specs.declared.Refusal.{Refusal}
use Rattle.demand.specs.Chunk.{all_targets, open_test}
use Rattle.demand.specs.Span.{Span, T, E, chunk_starts}
use Rattle.rules.specs.Edges.{targets, degree}
use Rattle.rules.specs.FromLists.{script}
use Rattle.rules.specs.Script.{Script}
use Rattle.opening.specs.declared.Room.{Room}
use Rattle.opening.specs.Opens.{OpenedAs, Refuses, Readies}
use Rattle.opening.specs.Records.{keys, laid}

module _ (S : Script) (rights : ℕ) (names chains steps : List ℕ) where
  -- a script that has the same of these, and anything else
  abbrev alike : Script
  alike = script rights names chains steps S.pools.switches S.pools.cases S.pools.ranges S.code

  same_targets : (ps : List ℕ) → all_targets S ps ≡ all_targets alike ps
  unfolding all_targets
  same_targets [] = refl
  same_targets (p ∷ ps) = ap (λ (ts : List ℕ). targets S p ++ ts) (same_targets ps)

  module _ (span : Span) where
    same_keys : keys S span ≡ keys alike span
    unfolding keys
    same_keys = rw (same_targets (chunk_starts S span)) refl

    same_laid : (words : ℕ) → laid S span words ≡ laid alike span words
    unfolding laid
    same_laid words = rw same_keys refl

    module _ (lent-records lent-work : ℕ) (records' work' : List ℕ) where
      refuses : {refusal : Refusal} → Refuses S span lent-records lent-work refusal records' work'
          → Refuses alike span lent-records lent-work refusal records' work'
      unfolding open_test T E degree
      refuses o = record { tested = o.tested; records_cleared = o.records_cleared; work_cleared = o.work_cleared }

      readies : {room : Room} → Readies S span lent-records lent-work room records' work'
          → Readies alike span lent-records lent-work room records' work'
      unfolding T E degree
      readies o = record {
        same_entry = o.same_entry;
        same_end = o.same_end;
        all_named = o.all_named;
        all_keys = o.all_keys ∙ ap length same_keys;
        in_code = o.in_code;
        records_room = o.records_room;
        work_room = o.work_room;
        records_laid = o.records_laid ∙ same_laid lent-records;
        work_cleared = o.work_cleared;
      }

      pub opened_by_code : (r : Result Room Refusal) → OpenedAs S span lent-records lent-work r records' work'
          → OpenedAs alike span lent-records lent-work r records' work'
      opened_by_code (Ok room) o = readies o
      opened_by_code (Err refusal) o = refuses o
