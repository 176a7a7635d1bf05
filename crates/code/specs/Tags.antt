-- The tags by name, with their bytes; the groups that document 01 writes with a star, as LOAD_*; and tables by tag.
-- Document 01, "Tags": "Numbers run from 0x01 in this order", and IMPORT 0x4f. Its `_` is written here as `-`.
use Rattle.std.specs.Prelude.{Bool, false, ◌||◌, cond, List, [], ◌∷◌, ℕ, eqb}

pub data Tag : Type 0 where
  -- width 1
  UNIT FALSE TRUE POP TICK CHECKPOINT RETURN THROW ITER_INIT ITER_DROP INTERPOLATE_START INTERPOLATE_APPEND : Tag
  INTERPOLATE_END POP_HANDLER IS_SHARED MAKE_FN_PTR LOAD_THIS LOAD_THIS_SHARED REQUIRE_THIS ASSIGN_THIS : Tag
  -- width 2
  ROTATE CURRY CALL_FN_PTR CALL_FN_PTR_CAPTURE CALL_FN_PTR_METHOD CALL_FN_PTR_ON_THIS : Tag
  -- width 3
  UNWIND_TO STATEMENT SHARE SHARE_NAMED LOAD_SHARED LOAD_SHARED_NAMED STORE_SHARED ASSIGN_THIS_OP MAKE_CLOSURE : Tag
  LOAD_CONST LOAD_LOCAL LOAD_NAMED STORE_LOCAL STORE_CONST DECLARE_LOCAL DECLARE_CONST DECLARE_GLOBAL_CONST CHAIN : Tag
  MAKE_ARRAY MAKE_MAP CHECK_ARRAY_SIZE CHECK_MAP_SIZE SWITCH CUSTOM_SYNTAX ASSIGN_NAMED IMPORT : Tag
  -- width 4
  CALL CALL_THIS_REF CALL_FN_PTR_ON_LOCAL CALL_FN_PTR_ON_NAMED : Tag
  -- width 5
  JUMP JUMP_IF_TRUE JUMP_IF_FALSE SKIP_IF_NOT_UNIT ITER_NEXT PUSH_HANDLER EXPORT_LOCAL EXPORT_NAMED ASSIGN_LOCAL : Tag
  ASSIGN_NAMED_OP : Tag
  -- width 6
  CALL_OP CALL_LOCAL_REF CALL_NAMED_REF : Tag
  -- width 7
  ITER_NEXT_INDEXED PUSH_HANDLER_VAR ASSIGN_LOCAL_OP : Tag

abbrev pub byte : Tag → ℕ
byte UNIT = 0x01
byte FALSE = 0x02
byte TRUE = 0x03
byte POP = 0x04
byte TICK = 0x05
byte CHECKPOINT = 0x06
byte RETURN = 0x07
byte THROW = 0x08
byte ITER_INIT = 0x09
byte ITER_DROP = 0x0a
byte INTERPOLATE_START = 0x0b
byte INTERPOLATE_APPEND = 0x0c
byte INTERPOLATE_END = 0x0d
byte POP_HANDLER = 0x0e
byte IS_SHARED = 0x0f
byte MAKE_FN_PTR = 0x10
byte LOAD_THIS = 0x11
byte LOAD_THIS_SHARED = 0x12
byte REQUIRE_THIS = 0x13
byte ASSIGN_THIS = 0x14
byte ROTATE = 0x15
byte CURRY = 0x16
byte CALL_FN_PTR = 0x17
byte CALL_FN_PTR_CAPTURE = 0x18
byte CALL_FN_PTR_METHOD = 0x19
byte CALL_FN_PTR_ON_THIS = 0x1a
byte UNWIND_TO = 0x1b
byte STATEMENT = 0x1c
byte SHARE = 0x1d
byte SHARE_NAMED = 0x1e
byte LOAD_SHARED = 0x1f
byte LOAD_SHARED_NAMED = 0x20
byte STORE_SHARED = 0x21
byte ASSIGN_THIS_OP = 0x22
byte MAKE_CLOSURE = 0x23
byte LOAD_CONST = 0x24
byte LOAD_LOCAL = 0x25
byte LOAD_NAMED = 0x26
byte STORE_LOCAL = 0x27
byte STORE_CONST = 0x28
byte DECLARE_LOCAL = 0x29
byte DECLARE_CONST = 0x2a
byte DECLARE_GLOBAL_CONST = 0x2b
byte CHAIN = 0x2c
byte MAKE_ARRAY = 0x2d
byte MAKE_MAP = 0x2e
byte CHECK_ARRAY_SIZE = 0x2f
byte CHECK_MAP_SIZE = 0x30
byte SWITCH = 0x31
byte CUSTOM_SYNTAX = 0x32
byte ASSIGN_NAMED = 0x33
byte IMPORT = 0x4f
byte CALL = 0x34
byte CALL_THIS_REF = 0x35
byte CALL_FN_PTR_ON_LOCAL = 0x36
byte CALL_FN_PTR_ON_NAMED = 0x37
byte JUMP = 0x38
byte JUMP_IF_TRUE = 0x39
byte JUMP_IF_FALSE = 0x3a
byte SKIP_IF_NOT_UNIT = 0x3b
byte ITER_NEXT = 0x3c
byte PUSH_HANDLER = 0x3d
byte EXPORT_LOCAL = 0x3e
byte EXPORT_NAMED = 0x3f
byte ASSIGN_LOCAL = 0x40
byte ASSIGN_NAMED_OP = 0x41
byte CALL_OP = 0x42
byte CALL_LOCAL_REF = 0x43
byte CALL_NAMED_REF = 0x44
byte ITER_NEXT_INDEXED = 0x45
byte PUSH_HANDLER_VAR = 0x46
byte ASSIGN_LOCAL_OP = 0x47

abbrev pub bytes : List Tag → List ℕ
bytes [] = []
bytes (tag ∷ tags) = byte tag ∷ bytes tags

abbrev pub loads : List Tag
loads = LOAD_THIS ∷ LOAD_THIS_SHARED ∷ LOAD_SHARED ∷ LOAD_SHARED_NAMED ∷ LOAD_CONST ∷ LOAD_LOCAL ∷ LOAD_NAMED ∷ []

abbrev pub stores : List Tag
stores = STORE_SHARED ∷ STORE_LOCAL ∷ STORE_CONST ∷ []

abbrev pub declares : List Tag
declares = DECLARE_LOCAL ∷ DECLARE_CONST ∷ DECLARE_GLOBAL_CONST ∷ []

abbrev pub assigns : List Tag
assigns = ASSIGN_THIS ∷ ASSIGN_THIS_OP ∷ ASSIGN_NAMED ∷ ASSIGN_LOCAL ∷ ASSIGN_NAMED_OP ∷ ASSIGN_LOCAL_OP ∷ []

abbrev pub jump_ifs : List Tag
jump_ifs = JUMP_IF_TRUE ∷ JUMP_IF_FALSE ∷ []

abbrev pub checks : List Tag
checks = CHECK_ARRAY_SIZE ∷ CHECK_MAP_SIZE ∷ []

abbrev pub call_refs : List Tag
call_refs = CALL_LOCAL_REF ∷ CALL_NAMED_REF ∷ CALL_THIS_REF ∷ []

abbrev pub call_fn_ptrs : List Tag
call_fn_ptrs =
    CALL_FN_PTR ∷ CALL_FN_PTR_CAPTURE ∷ CALL_FN_PTR_METHOD ∷ CALL_FN_PTR_ON_THIS ∷ CALL_FN_PTR_ON_LOCAL ∷
    CALL_FN_PTR_ON_NAMED ∷ []

abbrev pub iter_nexts : List Tag
iter_nexts = ITER_NEXT ∷ ITER_NEXT_INDEXED ∷ []

abbrev pub push_handlers : List Tag
push_handlers = PUSH_HANDLER ∷ PUSH_HANDLER_VAR ∷ []

-- is a byte one of these?
unfoldable pub among : ℕ → List ℕ → Bool
among tag [] = false
among tag (t ∷ ts) = eqb tag t || among tag ts

-- a row of a table says one thing of several tags, as document 01 does: "0/0/1 for UNIT, FALSE, TRUE"
pub record Row (A : Type 0) : Type 0 where
  pub says : A
  pub tags : List ℕ

infix 10 ◌for◌
abbrev pub ◌for◌ : {A : Type 0} → A → List Tag → Row A
says for tags = record { says = says; tags = bytes tags }

-- what the first row that has the tag says, and what is said of all others where none has it: "All others 0/0/0"
unfoldable pub look_up : {A : Type 0} → List (Row A) → (others : A) → (tag : ℕ) → A
look_up [] others tag = others
look_up (row ∷ rows) others tag = cond (among tag row.tags) row.says (look_up rows others tag)
