-- The input as the contracts build it from the parameters of a call, or read it off the code's struct. Document 01, "Flat pools and sizes": what is lent.
use Rattle.std.specs.Prelude.{List, ℕ}
use Rattle.std.specs.Borrow.{Bor}
use denote.Triple.Both.{Both}
use Rattle.rules.specs.FromLists.{script_of}
use Rattle.before.specs.declared.Input as lent
use Rattle.before.specs.Input.{Input}

-- a slice that is lent to a call, at its entry and at its exit
abbrev Lent : Type 0
Lent = Both (Bor (List ℕ)) (Bor (List ℕ))

-- the input that the parameters of a call lend
abbrev pub input : (rights functions : ℕ) (constants names : Lent) (tokens op_assignments : ℕ)
    (chains steps switches cases ranges code : Lent) (chunks : ℕ) → Input
input rights functions constants names tokens op_assignments chains steps switches cases ranges code chunks = record {
  script = record {
    code = code.entry.now;
    pools = record {
      constants = constants.entry.now;
      names = names.entry.now;
      tokens = tokens;
      op_assignments = op_assignments;
      chains = chains.entry.now;
      steps = steps.entry.now;
      switches = switches.entry.now;
      cases = cases.entry.now;
      ranges = ranges.entry.now;
    };
    rights = rights;
  };
  functions = functions;
  chunks = chunks;
}

-- the code's struct as the record that the definitions speak of
abbrev pub input_of : lent.Input → Input
input_of i = record { script = script_of i.script; functions = i.functions; chunks = i.chunks }
