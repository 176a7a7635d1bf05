-- Everything before the chunks. Document 01, "Order of the tests": "Limits, over whole entries; ragged tables; table
-- entries, tables and entries upward; room for marks, heights; constants upward (kind 4, p the whole word needed); over
-- the code, width then indices of each instruction; FUNCTION if functions exist"; "What comes back": "all of marks
-- holds the starts' bits after acceptance, zeros after refusal".
use Rattle.std.specs.Prelude.{cond, List, [], ◌∷◌, ℕ, ◌+◌, ◌/◌, ltb, leb, eqb, length, replicate}
use Rattle.std.proofs.Math.Option.{Option, none, some}
use Rattle.answer.specs.declared.Refusal.{Refusal}
use Rattle.answer.specs.declared.Refusal.TheVariants.{TooLarge, BadTable, NoRoom, MissingCaps, Undecodable, BadIndex}
use Rattle.code.specs.Width.{width_at}
use Rattle.indices.specs.Indices.{Tables, tables_of, size_of, refs, first_bad_ref, pool_sizes}
use Rattle.indices.specs.declared.Sizes as counted
use Rattle.listing.specs.Starts.{in_turn, starts}
use Rattle.marks.specs.Marks.{marked_all}
use Rattle.pools.specs.Sizes.{first_exceeded}
use Rattle.pools.specs.Tables.{first_bad_table}
use Rattle.pools.specs.Told.{Told}
use Rattle.pools.specs.declared.limits.Sizes.{Sizes}
use Rattle.rules.specs.Bits.{Right, bit}
use Rattle.rules.specs.Rights.{lacking}
use Rattle.before.specs.Input.{Input, sizes_of}

-- a test passes, or refuses with an answer
abbrev pub Test : Type 0
Test = Option Refusal

-- several tests in their order: the first that refuses
unfoldable pub first : List Test → Test
first [] = none
first (test ∷ tests) = elim test [ none ↦ first tests | some answer ↦ some answer ]

-- what is told in numbers, as a test: kind 0 passes
abbrev pub refused_by : Told → (Told → Refusal) → Test
refused_by told answer = cond (eqb told.kind 0) none (some (answer told))

-- ---- the tests

-- kind 1: more of something than its limit allows
unfoldable pub limits_test : Sizes → Test
limits_test sizes = refused_by (first_exceeded sizes) (λ t. TooLarge t.p)

-- kind 2: a ragged table, or a bad entry
unfoldable pub tables_test : (chains steps switches cases ranges : List ℕ) → Test
tables_test chains steps switches cases ranges =
    refused_by (first_bad_table chains steps switches cases ranges) (λ t. BadTable t.p t.q)

-- kind 3: fewer elements are lent of the buffer of this number than are needed
unfoldable pub lent_test : (needed lent buffer : ℕ) → Test
lent_test needed lent buffer = cond (ltb lent needed) (some (NoRoom needed buffer)) none

-- kind 4: a right lacks of those that are needed, which are told whole
unfoldable pub rights_test : (needed rights : ℕ) → Test
rights_test needed rights = cond (eqb (lacking needed rights) 0) none (some (MissingCaps 0 needed))

-- of the constants upward
unfoldable pub constants_test : (rights : ℕ) → List ℕ → Test
constants_test rights [] = none
constants_test rights (word ∷ words) = first (rights_test word rights ∷ constants_test rights words ∷ [])

-- of FUNCTION, where there are functions
unfoldable pub function_test : (functions rights : ℕ) → Test
function_test functions rights = cond (eqb functions 0) none (rights_test (bit Right.FUNCTION) rights)

-- kind 5: the instructions stop at an offset before the code's end
unfoldable pub width_test : List ℕ → ℕ → Test
width_test code at = cond (leb (length code) at) none (some (Undecodable at))

module _ (sizes : counted.Sizes) (records : Tables) (code : List ℕ) where
  -- kind 6: an index of the instruction at an offset is bad
  unfoldable pub indices_test : ℕ → Test
  indices_test at = refused_by (first_bad_ref (size_of sizes) (refs records code at)) (λ t. BadIndex at t.p t.q)

  -- both over the code from an offset on: the indices of each instruction in turn, and the width where there is none
  unfoldable pub code_test : ℕ → Test
  code_test at =
      in_turn (width_at code) (λ i rest. first (indices_test i ∷ rest ∷ [])) (width_test code) (length code) at

-- ---- their order

-- before any store, where so many words of marks and elements of heights are lent
module _ (sizes : Sizes) (chains steps switches cases ranges : List ℕ) (marks heights : ℕ) where
  unfoldable pub early_tests : Test
  early_tests =
      first (limits_test sizes ∷ tables_test chains steps switches cases ranges ∷
      lent_test (sizes.code / 64 + 1) marks 1 ∷ lent_test sizes.chunks heights 2 ∷ [])

-- after the first store
module _ (rights functions : ℕ) (constants : List ℕ) (sizes : counted.Sizes) (records : Tables) (code : List ℕ) where
  unfoldable pub late_tests : Test
  late_tests =
      first (constants_test rights constants ∷ code_test sizes records code 0 ∷ function_test functions rights ∷ [])

-- of an input
abbrev pub before_stores : Input → (marks heights : ℕ) → Test
before_stores I marks heights =
    let pools = I.script.pools in
    early_tests (sizes_of I) pools.chains pools.steps pools.switches pools.cases pools.ranges marks heights

abbrev pub after_stores : Input → Test
after_stores I =
    let pools = I.script.pools in
    late_tests I.script.rights I.functions pools.constants (pool_sizes (sizes_of I)) (tables_of pools)
    I.script.code

-- what so many words of marks hold once stores have begun and a test told this
unfoldable pub marks_of : List ℕ → Test → (words : ℕ) → List ℕ
marks_of code none words = marked_all (replicate words 0) (starts code)
marks_of code (some answer) words = replicate words 0
