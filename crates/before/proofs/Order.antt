-- What holds once the tests before any store have passed.
use mathlib.Core.Bool.{Bool, true, false, cond}
use mathlib.Core.List.{List}
use mathlib.Core.Option.{none, some}
use mathlib.Core.Path.{◌≡◌, refl}
use Prim.Native.Nat.{ℕ, ◌+◌, ◌/◌, ◌≤◌}
use borrow.Author.Tests.{eqb-true, ltb-false}
use lib.Dec.{ltb, eqb}
use Rattle.indices.specs.Checks.{tables, Sound}
use Rattle.indices.specs.declared.Sizes as counted
use Rattle.pools.specs.Good.{GoodTables, Within}
use Rattle.pools.specs.Pools.{chains_in, switches_in}
use Rattle.pools.specs.Sizes.{first_exceeded}
use Rattle.pools.specs.Tables.{first_bad_table}
use Rattle.pools.specs.declared.limits.Sizes.{Sizes}
use Rattle.pools.proofs.LimitLaws.{kept_within}
use Rattle.pools.proofs.TableLaws.{passed_good, chains_within, switches_within}
use Rattle.answer.specs.declared.Refusal.TheVariants.{TooLarge, BadTable, NoRoom}
use Rattle.answer.proofs.Apart.{zero≢one}
use Rattle.before.specs.Before.{limits_test, tables_test, lent_test, early_tests}
use Rattle.before.proofs.Tests.{both, not_refused}

-- ---- what each test before any store establishes

within_limits : (sizes : Sizes) → limits_test sizes ≡ none → Within sizes
unfolding limits_test
within_limits sizes e =
    let told = first_exceeded sizes in
    kept_within sizes (eqb-true _ 0 (not_refused (eqb told.kind 0) (TooLarge told.p) e))

good_tables : (chains steps switches cases ranges : List ℕ) → tables_test chains steps switches cases ranges ≡ none
    → GoodTables chains steps switches cases ranges
unfolding tables_test
good_tables chains steps switches cases ranges e =
    let found = first_bad_table chains steps switches cases ranges in
    passed_good chains steps switches cases ranges
    (eqb-true _ 0 (not_refused (eqb found.kind 0) (BadTable found.p found.q) e))

enough : (needed lent buffer : ℕ) → lent_test needed lent buffer ≡ none → needed ≤ lent
unfolding lent_test
enough needed lent buffer e = go (ltb lent needed) refl e
  where
    go : (b : Bool) → ltb lent needed ≡ b → cond b (some (NoRoom needed buffer)) none ≡ none → needed ≤ lent
    go true p q = absurd (zero≢one (cc))
    go false p q = ltb-false lent needed p

module _ (sizes : Sizes) (chains steps switches cases ranges : List ℕ) (marks heights : ℕ) where
  pub record Opened : Type 0 where
    pub kept : Within sizes
    pub good : GoodTables chains steps switches cases ranges
    pub marks_lent : sizes.code / 64 + 1 ≤ marks
    pub heights_lent : sizes.chunks ≤ heights

  pub opened : early_tests sizes chains steps switches cases ranges marks heights ≡ none → Opened
  unfolding early_tests
  opened e =
      let limits = both _ _ e in
      let tables = both _ _ limits.others in
      let room = both _ _ tables.others in
      let rest = both _ _ room.others in
      record {
        kept = within_limits sizes limits.this;
        good = good_tables chains steps switches cases ranges tables.this;
        marks_lent = enough _ marks 1 room.this;
        heights_lent = enough _ heights 2 rest.this;
      }

-- so the tables are what the check of indices asks for, where the sizes are theirs
pub sound : (sizes : counted.Sizes) {chains steps switches cases ranges : List ℕ} → sizes.chains ≡ chains_in chains
    → sizes.switches ≡ switches_in switches → GoodTables chains steps switches cases ranges
    → Sound sizes (tables chains steps switches cases)
sound sizes c s g = record {
  chains_counted = c;
  switches_counted = s;
  chains_within = chains_within g;
  cases_within = (switches_within g).cases_within;
}
