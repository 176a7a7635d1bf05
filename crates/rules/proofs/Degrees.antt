-- Document 01's list of outgoing edges: "none for RETURN and THROW, 1 for JUMP, 2 for the branches, ITER_NEXT* and
-- PUSH_HANDLER*, cases + ranges + 1 for SWITCH, else 1". The degree of the definition is that of the list.
use mathlib.Core.Bool.{Bool, true, false, cond}
use mathlib.Core.List.{List, [], ◌∷◌}
use mathlib.Core.Path.{◌≡◌, refl}
use Prim.Native.Nat.{ℕ, ◌+◌, ◌<◌}
use native.Mathlib.Omega.{arith}
use borrow.Author.Tests.{eqb-true}
use lib.Dec.{eqb, eqb→eq}
use lib.ListN.{length, length-append, length-map}
use Rattle.code.specs.Layout.{among, index_at, target_at}
use Rattle.code.specs.Tags.{RETURN, THROW, SWITCH, JUMP, JUMP_IF_TRUE, JUMP_IF_FALSE, SKIP_IF_NOT_UNIT, ITER_NEXT}
use Rattle.code.specs.Tags.{byte, bytes, PUSH_HANDLER, ITER_NEXT_INDEXED, PUSH_HANDLER_VAR}
use Rattle.code.specs.Width.{width_at}
use Rattle.pools.specs.Pools.{switch_at}
use Rattle.answer.specs.declared.Depths.{Depths}
use Rattle.rules.specs.Edges.{jumping, falls, arms_of, targets_of, targets, edges, degree}
use Rattle.rules.specs.Script.{Script, tag_of}
use Rattle.rules.proofs.Arms.{arms_length}
use Rattle.rules.proofs.Operands.{tag_small}
use Rattle.rules.proofs.Targets.{length_cond}
use Rattle.rules.proofs.Tests.{pass_at}

-- the list, where a SWITCH has so many arms
unfoldable pub listed : (tag arms : ℕ) → ℕ
listed tag arms =
    cond (among tag (bytes (RETURN ∷ THROW ∷ []))) 0
    (cond (eqb tag (byte JUMP)) 1
    (cond (among tag (bytes (JUMP_IF_TRUE ∷ JUMP_IF_FALSE ∷ SKIP_IF_NOT_UNIT ∷ ITER_NEXT ∷ ITER_NEXT_INDEXED ∷ PUSH_HANDLER ∷ PUSH_HANDLER_VAR ∷ []))) 2
    (cond (eqb tag (byte SWITCH)) arms 1)))

-- targets and fall-through
summed : (tag arms : ℕ) → ℕ
summed tag arms = cond (among tag (bytes jumping)) 1 (cond (eqb tag (byte SWITCH)) arms 0) + cond (falls tag) 1 0

tests : ℕ → List Bool
unfolding summed listed among falls
tests tag = eqb (summed tag 0) (listed tag 0) ∷ []

same : (tag : ℕ) → tag < 256 → (arms : ℕ) → summed tag arms ≡ listed tag arms
unfolding tests
same tag h arms = go (eqb tag (byte SWITCH)) refl
  where
    go : (b : Bool) → eqb tag (byte SWITCH) ≡ b → summed tag arms ≡ listed tag arms
    go true e = rw (eqb-true tag (byte SWITCH) e) (omega arith)
    go false e =
        let zero : summed tag 0 ≡ listed tag 0 = eqb→eq (summed tag 0) (listed tag 0) (pass_at tests tt tag h 0) in
        rw e (rw e at zero)

-- where control falls through, there is one edge more
fallen : {A : Type 0} (b : Bool) (x : A) → length (cond b (x ∷ []) []) ≡ cond b 1 0
fallen true x = refl
fallen false x = refl

module _ (S : Script) (p : ℕ) where
  -- the degree is the number of edges
  pub edges_length : (d : Depths) → length (edges S p d) ≡ degree S p
  unfolding edges degree
  edges_length d = simp (length-append, length-map, fallen)

  -- a SWITCH's arms
  abbrev pub arms : ℕ
  arms = (switch_at S.pools.switches (index_at S.code p)).cases + (switch_at S.pools.switches (index_at S.code p)).ranges + 1

  pub target_number : length (targets S p) ≡ cond (among (tag_of S p) (bytes jumping)) 1 (cond (eqb (tag_of S p) (byte SWITCH)) arms 0)
  unfolding targets_of
  target_number =
      rw (← arms_length S.pools.cases S.pools.ranges (switch_at S.pools.switches (index_at S.code p)))
      (length_cond (among (tag_of S p) (bytes jumping)) (eqb (tag_of S p) (byte SWITCH)) (target_at S.code p ∷ [])
      (arms_of S.pools.cases S.pools.ranges (switch_at S.pools.switches (index_at S.code p))))

  pub degree_listed : 0 < width_at S.code p → degree S p ≡ listed (tag_of S p) arms
  unfolding degree summed
  degree_listed wide = rw target_number (same (tag_of S p) (tag_small S.code p wide) arms)
