-- Document 01's bench cases as one table: "Code from 0, one chunk over all of it, declared 9, no rights or pools,
-- unless said." Each row has its input and the whole outcome in the document's numbers: the verdict, and what heights
-- and marks hold after it.
use Rattle.std.specs.Prelude.{List, [], ◌∷◌, ◌++◌, ℕ, ◌+◌, ◌^◌, length, replicate}
use Rattle.before.specs.Input.{Input}
use Rattle.demand.specs.Span.{Span}
use Rattle.verify.specs.Call.{Memory, Result, result}

-- ---- what is asked

-- a script of constants and code alone, with these chunks
abbrev pub asked : (rights : ℕ) (constants code : List ℕ) (spans : List Span) → Input
asked rights constants code spans = record {
  script = record {
    code = code;
    pools = record {
      constants = constants;
      names = [];
      tokens = 0;
      op_assignments = 0;
      chains = [];
      steps = [];
      switches = [];
      cases = [];
      ranges = [];
    };
    rights = rights;
  };
  functions = 0;
  chunks = length spans;
}

-- what is lent: enough for every row, with something in each element, so that zeroed and untouched can be told apart
abbrev pub lent : Memory
lent = record { marks = replicate 2 5; heights = replicate 2 77; records = replicate 16 6; work = replicate 40 7 }

-- the word with the bits of these places
unfoldable pub word : List ℕ → ℕ
word [] = 0
word (start ∷ starts) = 2 ^ start + word starts

-- the memory after the first store: these starts' bits, these heights, and nothing in records and work
abbrev pub left : (starts heights : List ℕ) → Memory
left starts heights =
    record { marks = word starts ∷ 0 ∷ []; heights = heights; records = replicate 16 0; work = replicate 40 0 }

-- ---- the rows

pub record BenchRow : Type 0 where
  pub rights : ℕ
  pub constants : List ℕ
  pub code : List ℕ
  pub spans : List Span
  pub outcome : Result

-- what is asked by a row, and what the definition of the whole call says to it
abbrev pub asked_by : BenchRow → Input
asked_by row = asked row.rights row.constants row.code row.spans

unfoldable pub answered : BenchRow → Result
answered row = result (asked_by row) row.spans lent

abbrev pub expected : BenchRow → Result
expected row = row.outcome

-- accepted, with these starts and heights
abbrev pub accepted_call : (instructions reached taken : ℕ) (starts heights : List ℕ) → Result
accepted_call instructions reached taken starts heights = record {
  verdict = record {
    kind = 0;
    chunk = 4294967295;
    at = 0;
    p = 0;
    q = 0;
    instructions = instructions;
    reached = reached;
    taken = taken;
  };
  memory = left starts heights;
}

-- refused, with these heights and no mark
abbrev pub refused_call : (kind chunk at p q : ℕ) (heights : List ℕ) → Result
refused_call kind chunk at p q heights = record {
  verdict = record { kind = kind; chunk = chunk; at = at; p = p; q = q; instructions = 0; reached = 0; taken = 0 };
  memory = left [] heights;
}

-- where there is one chunk: accepted with a height and the next element untouched; refused there, or before it
abbrev pub accepted_one : (height instructions reached taken : ℕ) (starts : List ℕ) → Result
accepted_one height instructions reached taken starts = accepted_call instructions reached taken starts (height ∷ 77 ∷ [])

abbrev pub refused_one : (kind at p q : ℕ) → Result
refused_one kind at p q = refused_call kind 0 at p q (77 ∷ 77 ∷ [])

abbrev pub refused_early : (kind at p q : ℕ) → Result
refused_early kind at p q = refused_call kind 4294967295 at p q (77 ∷ 77 ∷ [])

-- a chunk from an offset to another, declared 9
abbrev pub part : (entry end : ℕ) → Span
part entry end = record { entry = entry; end = end; declared = 9 }

-- no rights and no constants, and these chunks; or one over all of the code
abbrev pub spanned : List ℕ → List Span → Result → BenchRow
spanned code spans outcome = record { rights = 0; constants = []; code = code; spans = spans; outcome = outcome }

abbrev pub over_all : List ℕ → Result → BenchRow
over_all code outcome = spanned code (part 0 (length code) ∷ []) outcome

-- ---- document 01's

abbrev pub p1 : BenchRow
p1 = over_all (0x01 ∷ 0x07 ∷ []) (accepted_one 1 2 2 2 (0 ∷ 1 ∷ []))

abbrev pub p6 : BenchRow
p6 = over_all (0x38 ∷ 0x00 ∷ 0x00 ∷ 0x00 ∷ 0x00 ∷ []) (accepted_one 0 1 1 2 (0 ∷ []))

abbrev pub documented : List BenchRow
documented =
    p1 ∷
    -- P2
    spanned (0x01 ∷ 0x07 ∷ []) (record { entry = 0; end = 2; declared = 0 } ∷ []) (refused_one 14 0 1 0) ∷
    -- P3, P4, P5
    over_all (0x07 ∷ []) (refused_one 12 0 1 0) ∷
    over_all (0x01 ∷ []) (refused_one 13 0 0 0) ∷
    over_all [] (refused_one 13 0 0 0) ∷
    -- P6, and its two other targets
    p6 ∷
    over_all (0x38 ∷ 0x01 ∷ 0x00 ∷ 0x00 ∷ 0x00 ∷ []) (refused_one 10 0 1 0) ∷
    over_all (0x38 ∷ 0x05 ∷ 0x00 ∷ 0x00 ∷ 0x00 ∷ []) (refused_one 9 0 5 0) ∷
    -- P7
    over_all (0x3c ∷ 0xff ∷ 0xff ∷ 0xff ∷ 0xff ∷ []) (refused_one 15 0 0 0) ∷
    -- P8
    over_all (0x01 ∷ 0x09 ∷ 0x3c ∷ 0x0d ∷ 0x00 ∷ 0x00 ∷ 0x00 ∷ 0x04 ∷ 0x38 ∷ 0x02 ∷ 0x00 ∷ 0x00 ∷ 0x00 ∷ 0x01 ∷ 0x07 ∷ [])
    (accepted_one 1 7 7 8 (0 ∷ 1 ∷ 2 ∷ 7 ∷ 8 ∷ 13 ∷ 14 ∷ [])) ∷
    -- P9 and P10
    over_all (0x3d ∷ 0x06 ∷ 0x00 ∷ 0x00 ∷ 0x00 ∷ 0x0e ∷ 0x01 ∷ 0x07 ∷ []) (refused_one 11 6 0 0) ∷
    over_all (0x3d ∷ 0x05 ∷ 0x00 ∷ 0x00 ∷ 0x00 ∷ 0x0e ∷ 0x01 ∷ 0x07 ∷ []) (accepted_one 1 4 4 5 (0 ∷ 5 ∷ 6 ∷ 7 ∷ [])) ∷
    -- P11
    record {
      rights = 0;
      constants = replicate 1794 0;
      code = 0x24 ∷ 0x01 ∷ 0x07 ∷ [];
      spans = part 1 3 ∷ [];
      outcome = refused_one 8 0 1 0;
    } ∷
    -- P12: an instruction's rights, and a constant's
    record { rights = 32; constants = []; code = 0x01 ∷ 0x16 ∷ 0x00 ∷ 0x07 ∷ []; spans = part 0 4 ∷ []; outcome = refused_one 4 1 64 0 } ∷
    record { rights = 256; constants = 768 ∷ []; code = 0x01 ∷ 0x07 ∷ []; spans = part 0 2 ∷ []; outcome = refused_early 4 0 768 0 } ∷
    -- no width, and no constant
    over_all (0x00 ∷ []) (refused_early 5 0 0 0) ∷
    over_all (0x24 ∷ 0x00 ∷ []) (refused_early 5 0 0 0) ∷
    spanned (0x01 ∷ 0x07 ∷ 0x24 ∷ 0x00 ∷ 0x00 ∷ []) (part 0 2 ∷ []) (refused_early 6 2 0 1) ∷
    -- an instruction that is not reached
    over_all (0x01 ∷ 0x07 ∷ 0x0f ∷ []) (accepted_one 1 3 2 2 (0 ∷ 1 ∷ 2 ∷ [])) ∷
    -- an end inside an instruction
    spanned (0x38 ∷ 0x00 ∷ 0x00 ∷ 0x00 ∷ 0x00 ∷ []) (part 0 3 ∷ []) (accepted_one 0 1 1 2 (0 ∷ [])) ∷
    -- "Easy errors": pushes counted before pops
    over_all (0x01 ∷ 0x0d ∷ 0x07 ∷ []) (accepted_one 1 3 3 3 (0 ∷ 1 ∷ 2 ∷ [])) ∷
    []

-- ---- three more, on which frauds show

-- two chunks of different heights
abbrev pub two : BenchRow
two =
    spanned (0x01 ∷ 0x07 ∷ 0x01 ∷ 0x01 ∷ 0x04 ∷ 0x07 ∷ []) (part 0 2 ∷ part 2 6 ∷ [])
    (accepted_call 6 6 6 (0 ∷ 1 ∷ 2 ∷ 3 ∷ 4 ∷ 5 ∷ []) (1 ∷ 2 ∷ []))

-- the same with another second chunk, which is refused
abbrev pub spoiled : BenchRow
spoiled = spanned two.code (part 0 2 ∷ part 1 2 ∷ []) (refused_call 12 1 1 1 0 (1 ∷ 77 ∷ []))

-- P8 and two instructions that are not reached: its three counts differ
abbrev pub counted : BenchRow
counted =
    over_all (0x01 ∷ 0x09 ∷ 0x3c ∷ 0x0d ∷ 0x00 ∷ 0x00 ∷ 0x00 ∷ 0x04 ∷ 0x38 ∷ 0x02 ∷ 0x00 ∷ 0x00 ∷ 0x00 ∷ 0x01 ∷ 0x07 ∷ 0x0f ∷ 0x0f ∷ [])
    (accepted_one 1 9 7 8 (0 ∷ 1 ∷ 2 ∷ 7 ∷ 8 ∷ 13 ∷ 14 ∷ 15 ∷ 16 ∷ []))

abbrev pub tried : List BenchRow
tried = two ∷ spoiled ∷ counted ∷ []

-- the table
abbrev pub bench : List BenchRow
bench = documented ++ tried
