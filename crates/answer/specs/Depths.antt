-- Depths: how many operands, iterators and handlers there are. An item: a place that control comes to, with the depths
-- there. Document 01: "The walk starts with (entry, 0, 0, 0)"; "dropped if all three depths agree, else 11".
use Rattle.std.specs.Prelude.{Bool, ◌&&◌, ℕ, eqb}
use Rattle.answer.specs.declared.Depths.{Depths}

abbrev pub zeros : Depths
zeros = record { operands = 0; iterators = 0; handlers = 0 }

-- all three agree
unfoldable pub agree : Depths → Depths → Bool
agree d e = eqb d.operands e.operands && eqb d.iterators e.iterators && eqb d.handlers e.handlers

pub record Item : Type 0 where
  pub place : ℕ
  pub depths : Depths
