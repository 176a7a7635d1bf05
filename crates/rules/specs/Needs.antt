-- What an instruction needs besides its operands, and when it has all. The customer's third demand: "each written
-- instruction has the depths and rights it needs"; document 01, "Order of the tests": "15 for ITER_DROP, 16 for
-- POP_HANDLER", "ITER_NEXT* tests 15".
use Rattle.std.specs.Prelude.{cond, ◌∷◌, ◌≡◌, ℕ, ◌≤◌, eqb}
use Rattle.answer.specs.declared.Depths.{Depths}
use Rattle.code.specs.Layout.{among}
use Rattle.code.specs.Tags.{byte, bytes, ITER_DROP, POP_HANDLER, iter_nexts}
use Rattle.rules.specs.Effects.{needs}
use Rattle.rules.specs.Rights.{required, lacking}
use Rattle.rules.specs.Script.{Script, tag_of}

-- how many iterators, and how many handlers, an instruction needs
unfoldable pub iterators_needed : ℕ → ℕ
iterators_needed tag = cond (among tag (bytes (ITER_DROP ∷ iter_nexts))) 1 0

unfoldable pub handlers_needed : ℕ → ℕ
handlers_needed tag = cond (eqb tag (byte POP_HANDLER)) 1 0

-- of the instruction at a place: the rights that it needs and those that it lacks, the operands that it needs, and
-- that it has all it needs
module _ (S : Script) (p : ℕ) where
  abbrev pub required_rights : ℕ
  required_rights = required S.code S.pools.names S.pools.chains S.pools.steps p

  abbrev pub lacks : ℕ
  lacks = lacking required_rights S.rights

  abbrev pub operands_needed : ℕ
  operands_needed = needs S.code S.pools.chains p

  pub record Able (d : Depths) : Type 0 where
    pub rights : lacks ≡ 0
    pub operands : operands_needed ≤ d.operands
    pub iterators : iterators_needed (tag_of S p) ≤ d.iterators
    pub handlers : handlers_needed (tag_of S p) ≤ d.handlers
