-- Where an instruction leads to, and with which depths. Document 01, "Flat pools and sizes": "T is the targets named by
-- instructions that start in the chunk, repeats counted, E their outgoing edges"; "Order of the tests": "the
-- fall-through pushed last. ITER_NEXT* [...] exit keeps the depth with one iterator less, fall-through has depth + 1. A
-- handler's target has the operands from before the `try` and one handler more. SWITCH goes cases, ranges, default."
use Rattle.std.specs.Prelude.{Bool, not, cond, List, [], ◌∷◌, ◌++◌, map, ℕ, ◌+◌, ◌-◌, eqb, length}
use Rattle.answer.specs.declared.Depths.{Depths}
use Rattle.answer.specs.Depths.{Item}
use Rattle.code.specs.Layout.{among, tag_at, index_at, target_at}
use Rattle.code.specs.Tags.{RETURN, THROW, ITER_INIT, ITER_DROP, POP_HANDLER, SWITCH, JUMP, SKIP_IF_NOT_UNIT, jump_ifs}
use Rattle.code.specs.Tags.{Tag, byte, bytes, iter_nexts, push_handlers}
use Rattle.code.specs.Width.{width_at}
use Rattle.pools.specs.Pools.{Switch, Case, switch_at, cases_of, ranges_of}
use Rattle.rules.specs.Effects.{pops, pushes}
use Rattle.rules.specs.Script.{Script, tag_of}

-- the tags that name one target
abbrev pub jumping : List Tag
jumping = JUMP ∷ SKIP_IF_NOT_UNIT ∷ jump_ifs ++ iter_nexts ++ push_handlers

-- control goes on to the next instruction after these tags
unfoldable pub falls : ℕ → Bool
falls tag = not (among tag (bytes (RETURN ∷ THROW ∷ JUMP ∷ SWITCH ∷ [])))

-- and does nothing else after these
unfoldable pub plain : ℕ → Bool
plain tag = not (among tag (bytes (RETURN ∷ THROW ∷ SWITCH ∷ jumping)))

-- a switch's targets: cases, ranges, default
unfoldable pub arms_of : (cases ranges : List ℕ) → Switch → List ℕ
arms_of cases ranges s = map (λ (c : Case). c.target) (cases_of cases s) ++ ranges_of ranges s ++ (s.default ∷ [])

-- the targets that the instruction at a place names
unfoldable pub targets_of : (code switches cases ranges : List ℕ) → ℕ → List ℕ
targets_of code switches cases ranges p =
    cond (among (tag_at code p) (bytes jumping)) (target_at code p ∷ [])
    (cond (eqb (tag_at code p) (byte SWITCH)) (arms_of cases ranges (switch_at switches (index_at code p))) [])

-- the depths just after an instruction of a tag that pops and pushes so many
unfoldable pub after_of : (tag pops pushes : ℕ) → Depths → Depths
after_of tag pops pushes d = record {
  operands = d.operands - pops + pushes;
  iterators =
      cond (eqb tag (byte ITER_INIT)) (d.iterators + 1)
      (cond (eqb tag (byte ITER_DROP)) (d.iterators - 1)
      d.iterators);
  handlers =
      cond (among tag (bytes push_handlers)) (d.handlers + 1)
      (cond (eqb tag (byte POP_HANDLER)) (d.handlers - 1)
      d.handlers);
}

-- the depths at each of its targets, from those before it and those after it
unfoldable pub jumped_of : (tag : ℕ) (before after : Depths) → Depths
jumped_of tag before after =
    cond (among tag (bytes iter_nexts))
    (record { operands = before.operands; iterators = before.iterators - 1; handlers = before.handlers })
    (cond (among tag (bytes push_handlers))
    (record { operands = before.operands; iterators = before.iterators; handlers = before.handlers + 1 })
    after)

-- the same of the instruction at a place of a script
module _ (S : Script) (p : ℕ) where
  -- the place after it
  unfoldable pub next : ℕ
  next = p + width_at S.code p

  abbrev pub targets : List ℕ
  targets = targets_of S.code S.pools.switches S.pools.cases S.pools.ranges p

  abbrev pub after : Depths → Depths
  after d = after_of (tag_of S p) (pops S.code S.pools.chains p) (pushes S.code S.pools.chains p) d

  abbrev pub jumped : Depths → Depths
  jumped d = jumped_of (tag_of S p) d (after d)

  -- its edges: the targets in order, and the fall-through last
  unfoldable pub edges : Depths → List Item
  edges d =
      map (λ (t : ℕ). record { place = t; depths = jumped d }) targets
      ++ cond (falls (tag_of S p)) (record { place = next; depths = after d } ∷ []) []

  -- how many edges it has
  unfoldable pub degree : ℕ
  degree = length targets + cond (falls (tag_of S p)) 1 0
