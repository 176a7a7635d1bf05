-- The tags' names as the listing prints them. Document 01, "Tags": the names in their order, and IMPORT.
use Rattle.std.specs.Prelude.{cond, List, [], ◌∷◌, ℕ, eqb}
use Prim.Native.String.{String}
use Rattle.code.specs.Tags.{Tag, byte, UNIT, FALSE, TRUE, POP, TICK, CHECKPOINT, RETURN, THROW, ITER_INIT}
use Rattle.code.specs.Tags.{ITER_DROP}
use Rattle.code.specs.Tags.{INTERPOLATE_START, INTERPOLATE_APPEND, INTERPOLATE_END, POP_HANDLER, IS_SHARED}
use Rattle.code.specs.Tags.{MAKE_FN_PTR, LOAD_THIS, LOAD_THIS_SHARED, REQUIRE_THIS, ASSIGN_THIS, ROTATE, CURRY}
use Rattle.code.specs.Tags.{CALL_FN_PTR, CALL_FN_PTR_CAPTURE, CALL_FN_PTR_METHOD, CALL_FN_PTR_ON_THIS, UNWIND_TO}
use Rattle.code.specs.Tags.{STATEMENT, SHARE, SHARE_NAMED, LOAD_SHARED, LOAD_SHARED_NAMED, STORE_SHARED}
use Rattle.code.specs.Tags.{ASSIGN_THIS_OP, MAKE_CLOSURE, LOAD_CONST, LOAD_LOCAL, LOAD_NAMED, STORE_LOCAL}
use Rattle.code.specs.Tags.{STORE_CONST, DECLARE_LOCAL, DECLARE_CONST, DECLARE_GLOBAL_CONST, CHAIN, MAKE_ARRAY}
use Rattle.code.specs.Tags.{MAKE_MAP, CHECK_ARRAY_SIZE, CHECK_MAP_SIZE, SWITCH, CUSTOM_SYNTAX, ASSIGN_NAMED, CALL}
use Rattle.code.specs.Tags.{CALL_THIS_REF, CALL_FN_PTR_ON_LOCAL, CALL_FN_PTR_ON_NAMED, JUMP, JUMP_IF_TRUE}
use Rattle.code.specs.Tags.{JUMP_IF_FALSE, SKIP_IF_NOT_UNIT, ITER_NEXT, PUSH_HANDLER, EXPORT_LOCAL, EXPORT_NAMED}
use Rattle.code.specs.Tags.{ASSIGN_LOCAL, ASSIGN_NAMED_OP, CALL_OP, CALL_LOCAL_REF, CALL_NAMED_REF, ITER_NEXT_INDEXED}
use Rattle.code.specs.Tags.{PUSH_HANDLER_VAR, ASSIGN_LOCAL_OP, IMPORT}
use Rattle.list.specs.Text.{letters}

pub record Named : Type 0 where
  pub tag : ℕ
  pub name : String

abbrev of : Tag → String → Named
of tag name = record { tag = byte tag; name = name }

abbrev pub tag_names : List Named
tag_names =
    -- width 1
    of UNIT "UNIT" ∷
    of FALSE "FALSE" ∷
    of TRUE "TRUE" ∷
    of POP "POP" ∷
    of TICK "TICK" ∷
    of CHECKPOINT "CHECKPOINT" ∷
    of RETURN "RETURN" ∷
    of THROW "THROW" ∷
    of ITER_INIT "ITER_INIT" ∷
    of ITER_DROP "ITER_DROP" ∷
    of INTERPOLATE_START "INTERPOLATE_START" ∷
    of INTERPOLATE_APPEND "INTERPOLATE_APPEND" ∷
    of INTERPOLATE_END "INTERPOLATE_END" ∷
    of POP_HANDLER "POP_HANDLER" ∷
    of IS_SHARED "IS_SHARED" ∷
    of MAKE_FN_PTR "MAKE_FN_PTR" ∷
    of LOAD_THIS "LOAD_THIS" ∷
    of LOAD_THIS_SHARED "LOAD_THIS_SHARED" ∷
    of REQUIRE_THIS "REQUIRE_THIS" ∷
    of ASSIGN_THIS "ASSIGN_THIS" ∷
    -- width 2
    of ROTATE "ROTATE" ∷
    of CURRY "CURRY" ∷
    of CALL_FN_PTR "CALL_FN_PTR" ∷
    of CALL_FN_PTR_CAPTURE "CALL_FN_PTR_CAPTURE" ∷
    of CALL_FN_PTR_METHOD "CALL_FN_PTR_METHOD" ∷
    of CALL_FN_PTR_ON_THIS "CALL_FN_PTR_ON_THIS" ∷
    -- width 3
    of UNWIND_TO "UNWIND_TO" ∷
    of STATEMENT "STATEMENT" ∷
    of SHARE "SHARE" ∷
    of SHARE_NAMED "SHARE_NAMED" ∷
    of LOAD_SHARED "LOAD_SHARED" ∷
    of LOAD_SHARED_NAMED "LOAD_SHARED_NAMED" ∷
    of STORE_SHARED "STORE_SHARED" ∷
    of ASSIGN_THIS_OP "ASSIGN_THIS_OP" ∷
    of MAKE_CLOSURE "MAKE_CLOSURE" ∷
    of LOAD_CONST "LOAD_CONST" ∷
    of LOAD_LOCAL "LOAD_LOCAL" ∷
    of LOAD_NAMED "LOAD_NAMED" ∷
    of STORE_LOCAL "STORE_LOCAL" ∷
    of STORE_CONST "STORE_CONST" ∷
    of DECLARE_LOCAL "DECLARE_LOCAL" ∷
    of DECLARE_CONST "DECLARE_CONST" ∷
    of DECLARE_GLOBAL_CONST "DECLARE_GLOBAL_CONST" ∷
    of CHAIN "CHAIN" ∷
    of MAKE_ARRAY "MAKE_ARRAY" ∷
    of MAKE_MAP "MAKE_MAP" ∷
    of CHECK_ARRAY_SIZE "CHECK_ARRAY_SIZE" ∷
    of CHECK_MAP_SIZE "CHECK_MAP_SIZE" ∷
    of SWITCH "SWITCH" ∷
    of CUSTOM_SYNTAX "CUSTOM_SYNTAX" ∷
    of ASSIGN_NAMED "ASSIGN_NAMED" ∷
    of IMPORT "IMPORT" ∷
    -- width 4
    of CALL "CALL" ∷
    of CALL_THIS_REF "CALL_THIS_REF" ∷
    of CALL_FN_PTR_ON_LOCAL "CALL_FN_PTR_ON_LOCAL" ∷
    of CALL_FN_PTR_ON_NAMED "CALL_FN_PTR_ON_NAMED" ∷
    -- width 5
    of JUMP "JUMP" ∷
    of JUMP_IF_TRUE "JUMP_IF_TRUE" ∷
    of JUMP_IF_FALSE "JUMP_IF_FALSE" ∷
    of SKIP_IF_NOT_UNIT "SKIP_IF_NOT_UNIT" ∷
    of ITER_NEXT "ITER_NEXT" ∷
    of PUSH_HANDLER "PUSH_HANDLER" ∷
    of EXPORT_LOCAL "EXPORT_LOCAL" ∷
    of EXPORT_NAMED "EXPORT_NAMED" ∷
    of ASSIGN_LOCAL "ASSIGN_LOCAL" ∷
    of ASSIGN_NAMED_OP "ASSIGN_NAMED_OP" ∷
    -- width 6
    of CALL_OP "CALL_OP" ∷
    of CALL_LOCAL_REF "CALL_LOCAL_REF" ∷
    of CALL_NAMED_REF "CALL_NAMED_REF" ∷
    -- width 7
    of ITER_NEXT_INDEXED "ITER_NEXT_INDEXED" ∷
    of PUSH_HANDLER_VAR "PUSH_HANDLER_VAR" ∷
    of ASSIGN_LOCAL_OP "ASSIGN_LOCAL_OP" ∷
    []

-- the name of a tag among these, and none of a byte that is no tag
unfoldable pub name_in : List Named → ℕ → List ℕ
name_in [] tag = []
name_in (this ∷ others) tag = cond (eqb tag this.tag) (letters this.name) (name_in others tag)

abbrev pub name_of : ℕ → List ℕ
name_of = name_in tag_names
