-- The script that a call lends. Document 01, "Flat pools and sizes": the pools are lent as flat lists.
use Rattle.std.specs.Prelude.{List, [], ℕ}
use Rattle.pools.specs.Lent.{pools_of}
use Rattle.rules.specs.declared.Script as lent
use Rattle.rules.specs.Script.{Script}

-- the code's struct as the record that the definitions speak of
abbrev pub script_of : lent.Script → Script
script_of s = record { code = s.code.now; pools = pools_of s.pools; rights = s.rights }

-- as far as chunks look at it: at no constant, token or op-assignment
abbrev pub script : (rights : ℕ) (names chains steps switches cases ranges code : List ℕ) → Script
script rights names chains steps switches cases ranges code = record {
  code = code;
  pools = record {
    constants = [];
    names = names;
    tokens = 0;
    op_assignments = 0;
    chains = chains;
    steps = steps;
    switches = switches;
    cases = cases;
    ranges = ranges;
  };
  rights = rights;
}
