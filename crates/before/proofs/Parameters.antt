-- The input that a function builds of the parameters of a call is the one that they lend.
use mathlib.Core.Path.{◌≡◌, refl}
use Prim.Native.Nat.{ℕ}
use mathlib.Core.List.{List}
use denote.Triple.Both.{Both}
use Rattle.std.specs.Borrow.{Bor}
use Rattle.before.specs.Parameters.{input_of}
use Rattle.before.specs.Parameters.{input}

abbrev Lent : Type 0
Lent = Both (Bor (List ℕ)) (Bor (List ℕ))

pub built : (rights functions : ℕ) (constants names : Lent) (tokens op_assignments : ℕ)
    (chains steps switches cases ranges code : Lent) (chunks : ℕ)
    → input_of (record {
      script = record {
        code = code.entry;
        pools = record {
          constants = constants.entry;
          names = names.entry;
          tokens = tokens;
          op_assignments = op_assignments;
          chains = chains.entry;
          steps = steps.entry;
          switches = switches.entry;
          cases = cases.entry;
          ranges = ranges.entry;
        };
        rights = rights;
      };
      functions = functions;
      chunks = chunks;
    })
    ≡ input rights functions constants names tokens op_assignments chains steps switches cases ranges code chunks
built rights functions constants names tokens op_assignments chains steps switches cases ranges code chunks = refl
