-- One outcome for each input: two answers that tell the same numbers are the same answer.
use mathlib.Core.Bool.{cond}
use mathlib.Core.Path.{◌≡◌, refl, sym, ap, ◌∙◌}
use lib.Dec.{eqb}
use Prim.Native.Nat.{ℕ}
use Rattle.std.specs.Prelude.{Result, Ok, Err}
use Rattle.pools.specs.Answers.{limit_number, limits_told, table_number, tables_told}
use Rattle.pools.specs.Told.{Told}
use Rattle.pools.specs.declared.limits.Limit.{Limit}
use Rattle.pools.specs.declared.limits.Limit.TheVariants as limit
use Rattle.pools.specs.declared.tables.BadEntry.{BadEntry}
use Rattle.pools.specs.declared.tables.Table.{Table}
use Rattle.pools.specs.declared.tables.Table.TheVariants.{Chains, Steps, Switches, Cases}

-- what can be read back from its numbers has no double
read_back : {A : Type 0} (told : A → Told) (back : Told → A) → ((a : A) → back (told a) ≡ a)
    → (a b : A) → told a ≡ told b → a ≡ b
read_back told back same a b e = sym (same a) ∙ ap back e ∙ same b

limit_of : ℕ → Limit
limit_of n =
    cond (eqb n 1) limit.Code (cond (eqb n 2) limit.Constants (cond (eqb n 3) limit.Names
    (cond (eqb n 4) limit.Tokens (cond (eqb n 5) limit.OpAssignments (cond (eqb n 6) limit.Steps
    (cond (eqb n 7) limit.Cases (cond (eqb n 8) limit.Ranges (cond (eqb n 9) limit.Chains
    (cond (eqb n 10) limit.Switches limit.Chunks)))))))))

limits_back : Told → Result Unit Limit
limits_back t = cond (eqb t.kind 0) (Ok tt) (Err (limit_of t.p))

limits_same : (l : Result Unit Limit) → limits_back (limits_told l) ≡ l
unfolding limits_told limit_number limits_back limit_of
limits_same (Ok tt) = refl
limits_same (Err limit.Code) = refl
limits_same (Err limit.Constants) = refl
limits_same (Err limit.Names) = refl
limits_same (Err limit.Tokens) = refl
limits_same (Err limit.OpAssignments) = refl
limits_same (Err limit.Steps) = refl
limits_same (Err limit.Cases) = refl
limits_same (Err limit.Ranges) = refl
limits_same (Err limit.Chains) = refl
limits_same (Err limit.Switches) = refl
limits_same (Err limit.Chunks) = refl

pub one_limits : (a b : Result Unit Limit) → limits_told a ≡ limits_told b → a ≡ b
one_limits = read_back limits_told limits_back limits_same

table_of : ℕ → Table
table_of n = cond (eqb n 1) Chains (cond (eqb n 2) Steps (cond (eqb n 3) Switches Cases))

tables_back : Told → Result Unit BadEntry
tables_back t = cond (eqb t.kind 0) (Ok tt) (Err (record { table = table_of t.p; entry = t.q }))

table_same : (t : Table) → table_of (table_number t) ≡ t
unfolding table_number table_of
table_same Chains = refl
table_same Steps = refl
table_same Switches = refl
table_same Cases = refl

tables_same : (t : Result Unit BadEntry) → tables_back (tables_told t) ≡ t
unfolding tables_told tables_back
tables_same (Ok tt) = refl
tables_same (Err bad) = rw (table_same bad.table)

pub one_tables : (a b : Result Unit BadEntry) → tables_told a ≡ tables_told b → a ≡ b
one_tables = read_back tables_told tables_back tables_same
