-- Which rights an instruction needs, as a word of bits. Document 01, "Tags": "`required_caps` in 000 says who needs
-- what; a name is qualified if its lent flag byte is not 0".
use Rattle.std.specs.Prelude.{cond, List, [], ◌∷◌, ℕ, ◌-◌, eqb, get_or}
use Rattle.std.specs.Int.Bits.{bit_and, bit_or}
use Rattle.code.specs.Tags.{Row, ◌for◌, among, look_up, IS_SHARED, MAKE_FN_PTR, LOAD_THIS, LOAD_THIS_SHARED}
use Rattle.code.specs.Tags.{REQUIRE_THIS, ASSIGN_THIS, CURRY, SHARE, SHARE_NAMED, ASSIGN_THIS_OP, MAKE_CLOSURE}
use Rattle.code.specs.Tags.{LOAD_NAMED, CHAIN, MAKE_ARRAY, MAKE_MAP, CUSTOM_SYNTAX, IMPORT, CALL, CALL_THIS_REF}
use Rattle.code.specs.Tags.{EXPORT_LOCAL, EXPORT_NAMED, CALL_OP, CALL_LOCAL_REF, CALL_NAMED_REF, call_fn_ptrs}
use Rattle.code.specs.Layout.{tag_at, index_at}
use Rattle.pools.specs.Pools.{Chain, Step, chain_at, steps_of}
use Rattle.rules.specs.Bits.{Right, bit}

-- ---- of what an instruction names

-- MODULE for a qualified name
unfoldable pub of_name : List ℕ → ℕ → ℕ
of_name names name = cond (eqb (get_or names name 0) 0) 0 (bit Right.MODULE)

unfoldable pub of_step : Step → ℕ
of_step s = cond (eqb s.kind 0) (bit Right.INDEXING) (cond (eqb s.kind 1) (bit Right.PROPERTY) (bit Right.METHOD))

unfoldable pub of_steps : List Step → ℕ
of_steps [] = 0
of_steps (s ∷ ss) = bit_or (of_step s) (of_steps ss)

-- THIS for a chain whose root is `this`, joined with what its steps need
unfoldable pub of_chain : List ℕ → Chain → ℕ
of_chain steps c = bit_or (cond (eqb c.root 2) (bit Right.THIS) 0) (of_steps (steps_of steps c))

-- ---- of a tag

-- fixed bits, whatever the operands are; fixed bits joined with those of its name; those of its chain
pub data Need : Type 0 where
  fixed named : (bits : ℕ) → Need
  chained : Need

-- in the order of `required_caps`
abbrev pub rights_by_tag : List (Row Need)
rights_by_tag =
    (chained for CHAIN ∷ [])
    ∷ (fixed (bit Right.FN_PTR) for MAKE_FN_PTR ∷ MAKE_CLOSURE ∷ call_fn_ptrs)
    ∷ (fixed (bit_or (bit Right.FN_PTR) (bit Right.CURRYING)) for CURRY ∷ [])
    ∷ (fixed (bit Right.SHARING) for SHARE ∷ SHARE_NAMED ∷ [])
    ∷ (fixed (bit Right.THIS) for REQUIRE_THIS ∷ LOAD_THIS ∷ LOAD_THIS_SHARED ∷ ASSIGN_THIS ∷ ASSIGN_THIS_OP ∷ [])
    ∷ (fixed (bit Right.ARRAY) for MAKE_ARRAY ∷ [])
    ∷ (fixed (bit Right.MAP) for MAKE_MAP ∷ [])
    ∷ (fixed (bit Right.SHARING) for IS_SHARED ∷ [])
    ∷ (fixed (bit Right.CUSTOM_SYNTAX) for CUSTOM_SYNTAX ∷ [])
    ∷ (fixed (bit Right.EXPORT) for EXPORT_LOCAL ∷ EXPORT_NAMED ∷ [])
    ∷ (fixed (bit Right.IMPORT) for IMPORT ∷ [])
    ∷ (named 0 for LOAD_NAMED ∷ CALL ∷ CALL_OP ∷ CALL_LOCAL_REF ∷ CALL_NAMED_REF ∷ [])
    ∷ (named (bit Right.THIS) for CALL_THIS_REF ∷ [])
    ∷ []

-- all others need none
unfoldable pub rights_of_tag : ℕ → Need
unfolding look_up among
rights_of_tag tag = look_up rights_by_tag (fixed 0) tag

-- ---- of the instruction at a place

-- what a need comes to, where the name and the chain need these
unfoldable pub comes_to : (name chain : ℕ) → Need → ℕ
comes_to name chain (fixed bits) = bits
comes_to name chain (named bits) = bit_or bits name
comes_to name chain chained = chain

module _ (code names chains steps : List ℕ) (p : ℕ) where
  unfoldable pub required : ℕ
  unfolding rights_of_tag comes_to
  required =
      comes_to (of_name names (index_at code p)) (of_chain steps (chain_at chains (index_at code p)))
      (rights_of_tag (tag_at code p))

-- what is needed of a word of rights and is not in it
unfoldable pub lacking : (needed rights : ℕ) → ℕ
lacking needed rights = needed - bit_and needed rights
