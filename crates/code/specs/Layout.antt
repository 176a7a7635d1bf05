-- Where an instruction's operands stand: the fields of each tag in byte order, the first at offset 1. Document 01,
-- "Tags": "Index checks are those of `check_indices` in 000, in its order and at its offsets. Jump targets are u32 at
-- offset 1. A count n is the byte at 1 (width 2 and CALL_FN_PTR_ON_*), the byte at 3 (other calls), the u16 at 1
-- (MAKE_*)"; "Modules": "little-endian numbers". A pool's number is that of kind 6: "constant 1, name, operator,
-- op-assignment, chain, switch, site 7".
use Rattle.std.specs.Prelude.{List, [], ◌∷◌, ◌++◌, ℕ, zero, suc, ◌+◌, ◌*◌, get_or}
use Rattle.code.specs.Tags.{Row, ◌for◌, look_up, ROTATE, CURRY, CALL_FN_PTR, CALL_FN_PTR_CAPTURE}
use Rattle.code.specs.Tags.{CALL_FN_PTR_METHOD, CALL_FN_PTR_ON_THIS, UNWIND_TO, STATEMENT, SHARE, SHARE_NAMED}
use Rattle.code.specs.Tags.{LOAD_SHARED, LOAD_SHARED_NAMED, ASSIGN_THIS_OP, MAKE_CLOSURE, LOAD_CONST, LOAD_LOCAL}
use Rattle.code.specs.Tags.{LOAD_NAMED, CHAIN, MAKE_ARRAY, MAKE_MAP, SWITCH, CUSTOM_SYNTAX, ASSIGN_NAMED, IMPORT}
use Rattle.code.specs.Tags.{CALL, CALL_THIS_REF, CALL_FN_PTR_ON_LOCAL, CALL_FN_PTR_ON_NAMED, JUMP}
use Rattle.code.specs.Tags.{SKIP_IF_NOT_UNIT, ITER_NEXT, PUSH_HANDLER, EXPORT_LOCAL, EXPORT_NAMED, ASSIGN_LOCAL}
use Rattle.code.specs.Tags.{ASSIGN_NAMED_OP, CALL_OP, CALL_LOCAL_REF, CALL_NAMED_REF, ITER_NEXT_INDEXED}
use Rattle.code.specs.Tags.{PUSH_HANDLER_VAR, ASSIGN_LOCAL_OP, jump_ifs, stores, declares, checks}
unfoldable pub use Rattle.code.specs.Tags.{among}

-- a jump's target, of four bytes; a count of one byte, or of two; an index into a pool, or a number that nobody checks
-- here, as a slot or a line, of two
pub data Field : Type 0 where
  target count8 count16 slot : Field
  index : (pool : ℕ) → Field

abbrev pub constants : ℕ
constants = 1

abbrev pub names : ℕ
names = 2

abbrev pub operators : ℕ
operators = 3

abbrev pub op_assignments : ℕ
op_assignments = 4

abbrev pub chains : ℕ
chains = 5

abbrev pub switches : ℕ
switches = 6

abbrev pub sites : ℕ
sites = 7

abbrev pub layouts : List (Row (List Field))
layouts =
    -- the index checks, in their order
    (index constants ∷ [] for LOAD_CONST ∷ [])
    ∷ (index names ∷ [] for declares)
    ∷ (index names ∷ count8 ∷ [] for CALL ∷ CALL_THIS_REF ∷ [])
    ∷ (index names ∷ count8 ∷ slot ∷ [] for CALL_LOCAL_REF ∷ [])
    ∷ (index names ∷ count8 ∷ index names ∷ [] for CALL_NAMED_REF ∷ [])
    ∷ (index names ∷ count8 ∷ index operators ∷ [] for CALL_OP ∷ [])
    ∷ (count8 ∷ index names ∷ [] for CALL_FN_PTR_ON_NAMED ∷ [])
    ∷ (index names ∷ [] for LOAD_NAMED ∷ LOAD_SHARED_NAMED ∷ ASSIGN_NAMED ∷ SHARE_NAMED ∷ MAKE_CLOSURE ∷ [])
    ∷ (slot ∷ index names ∷ [] for ASSIGN_LOCAL ∷ [])
    ∷ (index names ∷ index op_assignments ∷ [] for ASSIGN_NAMED_OP ∷ [])
    ∷ (slot ∷ index names ∷ index op_assignments ∷ [] for ASSIGN_LOCAL_OP ∷ [])
    ∷ (index op_assignments ∷ [] for ASSIGN_THIS_OP ∷ [])
    ∷ (slot ∷ index names ∷ [] for EXPORT_LOCAL ∷ [])
    ∷ (index names ∷ index names ∷ [] for EXPORT_NAMED ∷ [])
    ∷ (index names ∷ [] for IMPORT ∷ [])
    ∷ (index chains ∷ [] for CHAIN ∷ [])
    ∷ (index switches ∷ [] for SWITCH ∷ [])
    ∷ (index sites ∷ [] for CUSTOM_SYNTAX ∷ [])
    -- the jump targets
    ∷ (target ∷ [] for JUMP ∷ jump_ifs ++ SKIP_IF_NOT_UNIT ∷ ITER_NEXT ∷ PUSH_HANDLER ∷ [])
    ∷ (target ∷ slot ∷ [] for ITER_NEXT_INDEXED ∷ PUSH_HANDLER_VAR ∷ [])
    -- the counts of those that name no index
    ∷ (count8 ∷ [] for ROTATE ∷ CURRY ∷ CALL_FN_PTR ∷ CALL_FN_PTR_CAPTURE ∷ CALL_FN_PTR_METHOD ∷
    CALL_FN_PTR_ON_THIS ∷ [])
    ∷ (count8 ∷ slot ∷ [] for CALL_FN_PTR_ON_LOCAL ∷ [])
    ∷ (count16 ∷ [] for MAKE_ARRAY ∷ MAKE_MAP ∷ [])
    -- and those of which nothing is checked here
    ∷ (slot ∷ [] for UNWIND_TO ∷ STATEMENT ∷ SHARE ∷ LOAD_SHARED ∷ LOAD_LOCAL ∷ stores ++ checks)
    ∷ []

-- all others have no operands
unfoldable pub layout : ℕ → List Field
unfolding look_up among
layout tag = look_up layouts [] tag

-- the number that so many bytes make from an offset on, the lowest byte first
unfoldable pub little : ℕ → List ℕ → ℕ → ℕ
little zero code at = 0
little (suc n) code at = get_or code at 0 + 256 * little n code (at + 1)

-- the number of the first count among fields that start at an offset of the code, 0 where there is none
unfoldable pub count_from : List Field → List ℕ → ℕ → ℕ
count_from [] code at = 0
count_from (count8 ∷ fields) code at = get_or code at 0
count_from (count16 ∷ fields) code at = little 2 code at
count_from (target ∷ fields) code at = count_from fields code (at + 4)
count_from (slot ∷ fields) code at = count_from fields code (at + 2)
count_from (index pool ∷ fields) code at = count_from fields code (at + 2)

-- the indices among fields, each with its offset from the tag and its pool, in the order of their tests
pub record Index : Type 0 where
  pub offset : ℕ
  pub pool : ℕ

unfoldable pub indices_from : List Field → ℕ → List Index
indices_from [] at = []
indices_from (index pool ∷ fields) at = record { offset = at; pool = pool } ∷ indices_from fields (at + 2)
indices_from (target ∷ fields) at = indices_from fields (at + 4)
indices_from (count8 ∷ fields) at = indices_from fields (at + 1)
indices_from (count16 ∷ fields) at = indices_from fields (at + 2)
indices_from (slot ∷ fields) at = indices_from fields (at + 2)

abbrev pub indices : ℕ → List Index
indices tag = indices_from (layout tag) 1

-- of the instruction at an offset: its tag, its count n, its jump target, and the index in its first two operand bytes
abbrev pub tag_at : List ℕ → ℕ → ℕ
tag_at code at = get_or code at 0

abbrev pub count_at : List ℕ → ℕ → ℕ
count_at code at = count_from (layout (tag_at code at)) code (at + 1)

abbrev pub target_at : List ℕ → ℕ → ℕ
target_at code at = little 4 code (at + 1)

abbrev pub index_at : List ℕ → ℕ → ℕ
index_at code at = little 2 code (at + 1)
