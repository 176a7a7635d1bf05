-- What the tests of the tables tell in their order, for each way through them; and what that says of the tables.
use mathlib.Core.Bool.{Bool, true, false, true≢false}
use mathlib.Core.List.{List, [], ◌∷◌}
use mathlib.Core.Path.{◌≡◌, refl, sym, ap, ◌∙◌}
use Prim.Native.Nat.{ℕ, ◌%◌, ◌<◌}
use native.Mathlib.Nat.{div-add-mod', mul_comm}
use native.Mathlib.Omega.{arith}
use borrow.Author.Tests.{le-ltb, ltb-false}
use lib.ListN.{length}
use Rattle.pools.specs.Good.{Whole, AllWhole, GoodChains, GoodSteps, GoodTables, ChainsWithin, SwitchesWithin}
use Rattle.pools.specs.Pools.{chain_at, step_at, switch_at, chain_words, step_words, switch_words, case_words}
use Rattle.pools.specs.Pools.{whole, chains_in, steps_in, switches_in, cases_in}
use Rattle.pools.specs.Tables.{ragged, bad_chain, bad_step, bad_switch}
use Rattle.pools.specs.Tables.{whole_table, good_chains, good_steps, good_switches, first_bad_table}
use Rattle.pools.specs.Answers.{tables_told}
use Rattle.pools.specs.Told.{Told, fine, bad_table, first_told}
use Rattle.pools.proofs.Entries.{not_bad_chain, good_chain, not_bad_step, good_step, not_bad_switch, good_switch}
use Rattle.pools.proofs.First.{passes_on, refuses_here, Tells, FirstAt, Upward, none, first_at, told_upward}

-- ---- a table's words

module _ (size : ℕ) (words : List ℕ) where
  none_over : length words % size ≡ 0 → ragged size words ≡ false
  unfolding ragged
  none_over e = le-ltb 0 (length words % size) (omega arith)

  pub not_ragged : Whole size words → ragged size words ≡ false
  not_ragged w =
      none_over (omega (arith, w, div-add-mod' (length words) size, mul_comm size (whole size words)))

  pub is_whole : ragged size words ≡ false → Whole size words
  unfolding ragged
  is_whole e =
      omega (
        arith,
        ltb-false 0 (length words % size) e,
        div-add-mod' (length words) size,
        mul_comm size (whole size words),
      )

-- what a test of them answers, as `First` takes it
pub tables_tell : Tells tables_told
unfolding tables_told
tables_tell = record { of_ok = λ x. refl; of_err = λ e. omega arith }

-- ---- what entries name

-- in good tables it lies within its table
module _ {chains steps switches cases ranges : List ℕ} (g : GoodTables chains steps switches cases ranges) where
  pub chains_within : ChainsWithin chains steps
  chains_within = record { steps_within = λ i h. (g.good_chains i h).within }

  pub switches_within : SwitchesWithin switches cases ranges
  switches_within = record {
    cases_within = λ i h. (g.good_switches i h).cases_within;
    ranges_within = λ i h. (g.good_switches i h).ranges_within;
  }

-- ---- the ways through the tests

module _ (chains steps switches cases ranges : List ℕ) where
  abbrev told : Told
  told = first_bad_table chains steps switches cases ranges

  -- is the entry at an index of each table bad?
  abbrev chain_bad : ℕ → Bool
  chain_bad i = bad_chain (steps_in steps) (chain_at chains i)

  abbrev step_bad : ℕ → Bool
  step_bad i = bad_step (step_at steps i)

  abbrev switch_bad : ℕ → Bool
  switch_bad i = bad_switch (cases_in cases) (length ranges) (switch_at switches i)

  -- what the entries of each table tell
  abbrev in_chains : Told
  in_chains = good_chains chains (steps_in steps)

  abbrev in_steps : Told
  in_steps = good_steps steps

  abbrev in_switches : Told
  in_switches = good_switches switches (cases_in cases) (length ranges)

  -- the first ragged table tells
  pub ragged_chains : ragged chain_words chains ≡ true → bad_table 1 (chains_in chains) ≡ told
  unfolding first_bad_table whole_table first_told
  ragged_chains e = simp e

  pub ragged_steps : ragged chain_words chains ≡ false → ragged step_words steps ≡ true
      → bad_table 2 (steps_in steps) ≡ told
  unfolding first_bad_table whole_table first_told
  ragged_steps c e = simp (c, e)

  pub ragged_switches : ragged chain_words chains ≡ false → ragged step_words steps ≡ false
      → ragged switch_words switches ≡ true → bad_table 3 (switches_in switches) ≡ told
  unfolding first_bad_table whole_table first_told
  ragged_switches c s e = simp (c, s, e)

  pub ragged_cases : ragged chain_words chains ≡ false → ragged step_words steps ≡ false
      → ragged switch_words switches ≡ false → ragged case_words cases ≡ true → bad_table 4 (cases_in cases) ≡ told
  unfolding first_bad_table whole_table first_told
  ragged_cases c s w e = simp (c, s, w, e)

  -- past the four tests
  pub record NoneRagged : Type 0 where
    pub chains_whole : ragged chain_words chains ≡ false
    pub steps_whole : ragged step_words steps ≡ false
    pub switches_whole : ragged switch_words switches ≡ false
    pub cases_whole : ragged case_words cases ≡ false

  -- where none is ragged the entries tell
  by_entries : NoneRagged → told ≡ first_told (in_chains ∷ in_steps ∷ in_switches ∷ [])
  unfolding first_bad_table whole_table first_told
  by_entries n = simp (n.chains_whole, n.steps_whole, n.switches_whole, n.cases_whole)

  -- the first table with a bad entry tells
  pub in_chains_lem : NoneRagged → {t : Told} → t ≡ in_chains → 0 < t.kind → t ≡ told
  in_chains_lem n e h = e ∙ sym (by_entries n ∙ refuses_here in_chains _ (rw e at h))

  pub in_steps_lem : NoneRagged → fine ≡ in_chains → {t : Told} → t ≡ in_steps → 0 < t.kind → t ≡ told
  in_steps_lem n c e h =
      e
      ∙ sym (by_entries n ∙ passes_on in_chains _ (ap (λ (t : Told). t.kind) (sym c))
      ∙ refuses_here in_steps _ (rw e at h))

  -- the last of the entries tell for themselves
  by_switches : first_told (in_switches ∷ []) ≡ in_switches
  unfolding first_told
  by_switches = go (told_upward (bad_table 3) _ (switches_in switches))
    where
      go : {t : Told} → Upward (bad_table 3) switch_bad (switches_in switches) t → first_told (t ∷ []) ≡ t
      go (none each e) = rw e
      go (first_at i at e) = rw e

  pub in_switches_lem : NoneRagged → fine ≡ in_chains → fine ≡ in_steps → in_switches ≡ told
  in_switches_lem n c s =
      sym (by_entries n ∙ passes_on in_chains _ (ap (λ (t : Told). t.kind) (sym c))
      ∙ passes_on in_steps _ (ap (λ (t : Told). t.kind) (sym s)) ∙ by_switches)

  -- ---- what they say of the tables

  -- this entry of this table is the first that is bad: all that stands before it in the order is good. Of a ragged
  -- table the entry is the one that is cut off
  pub data FirstIs : (table entry : ℕ) → Type 0 where
    ragged_chain : ragged chain_words chains ≡ true → FirstIs 1 (chains_in chains)
    ragged_step : Whole chain_words chains → ragged step_words steps ≡ true → FirstIs 2 (steps_in steps)
    ragged_switch : Whole chain_words chains → Whole step_words steps → ragged switch_words switches ≡ true
        → FirstIs 3 (switches_in switches)
    ragged_case : Whole chain_words chains → Whole step_words steps → Whole switch_words switches
        → ragged case_words cases ≡ true → FirstIs 4 (cases_in cases)
    a_bad_chain : {i : ℕ} → AllWhole chains steps switches cases
        → FirstAt chain_bad (chains_in chains) i → FirstIs 1 i
    a_bad_step : {i : ℕ} → AllWhole chains steps switches cases → GoodChains chains steps
        → FirstAt step_bad (steps_in steps) i → FirstIs 2 i
    a_bad_switch : {i : ℕ} → AllWhole chains steps switches cases → GoodChains chains steps → GoodSteps steps
        → FirstAt switch_bad (switches_in switches) i → FirstIs 3 i

  -- the tables are good, or what is told is the first that is bad
  pub data Outcome (t : Told) : Type 0 where
    good : GoodTables chains steps switches cases ranges → t ≡ fine → Outcome t
    refused : {table entry : ℕ} → FirstIs table entry → t ≡ bad_table table entry → Outcome t

  -- which of them it is goes by the tests in their order
  all_whole : NoneRagged → AllWhole chains steps switches cases
  all_whole n = record {
    chains_whole = is_whole chain_words chains n.chains_whole;
    steps_whole = is_whole step_words steps n.steps_whole;
    switches_whole = is_whole switch_words switches n.switches_whole;
    cases_whole = is_whole case_words cases n.cases_whole;
  }

  by_entry : NoneRagged → Outcome told
  by_entry n =
      in_turn (told_upward (bad_table 1) _ (chains_in chains)) (told_upward (bad_table 2) _ (steps_in steps))
      (told_upward (bad_table 3) _ (switches_in switches))
    where
      in_turn : Upward (bad_table 1) chain_bad (chains_in chains) in_chains
          → Upward (bad_table 2) step_bad (steps_in steps) in_steps
          → Upward (bad_table 3) switch_bad (switches_in switches) in_switches → Outcome told
      in_turn (first_at i at e) s w =
          refused (a_bad_chain (all_whole n) at) (sym (in_chains_lem n (sym e) (omega arith)))
      in_turn (none c p) (first_at i at e) w =
          refused
          (a_bad_step (all_whole n) (λ k h. good_chain _ _ (c k h)) at)
          (sym (in_steps_lem n (sym p) (sym e) (omega arith)))
      in_turn (none c p) (none s q) (first_at i at e) =
          refused (a_bad_switch (all_whole n) (λ k h. good_chain _ _ (c k h)) (λ k h. good_step _ (s k h)) at)
          (sym (in_switches_lem n (sym p) (sym q)) ∙ e)
      in_turn (none c p) (none s q) (none w e) =
          good
          (record {
            all_whole = all_whole n;
            good_chains = λ k h. good_chain _ _ (c k h);
            good_steps = λ k h. good_step _ (s k h);
            good_switches = λ k h. good_switch _ _ _ (w k h);
          })
          (sym (in_switches_lem n (sym p) (sym q)) ∙ e)

  pub outcome : Outcome told
  outcome =
      go (ragged chain_words chains) refl (ragged step_words steps) refl
      (ragged switch_words switches) refl (ragged case_words cases) refl
    where
      go : (c : Bool) → ragged chain_words chains ≡ c → (s : Bool) → ragged step_words steps ≡ s
          → (w : Bool) → ragged switch_words switches ≡ w → (k : Bool) → ragged case_words cases ≡ k → Outcome told
      go true c s q w r k t = refused (ragged_chain c) (sym (ragged_chains c))
      go false c true s w r k t = refused (ragged_step (is_whole chain_words chains c) s) (sym (ragged_steps c s))
      go false c false s true w k t =
          refused
          (ragged_switch (is_whole chain_words chains c) (is_whole step_words steps s) w)
          (sym (ragged_switches c s w))
      go false c false s false w true k =
          refused
          (ragged_case (is_whole chain_words chains c) (is_whole step_words steps s)
          (is_whole switch_words switches w) k)
          (sym (ragged_cases c s w k))
      go false c false s false w false k =
          by_entry (record { chains_whole = c; steps_whole = s; switches_whole = w; cases_whole = k })

  -- what passes is good
  pub passed_good : told.kind ≡ 0 → GoodTables chains steps switches cases ranges
  passed_good z = go outcome
    where
      go : Outcome told → GoodTables chains steps switches cases ranges
      go (good g e) = g
      go (refused f e) = absurd (omega (arith, ap (λ (t : Told). t.kind) e))

  -- and what is good passes: in good tables nothing is the first that is bad
  none_first : GoodTables chains steps switches cases ranges → {table entry : ℕ} → FirstIs table entry → ⊥
  none_first g (ragged_chain r) = true≢false (sym r ∙ not_ragged chain_words chains g.all_whole.chains_whole)
  none_first g (ragged_step c r) = true≢false (sym r ∙ not_ragged step_words steps g.all_whole.steps_whole)
  none_first g (ragged_switch c s r) =
      true≢false (sym r ∙ not_ragged switch_words switches g.all_whole.switches_whole)
  none_first g (ragged_case c s w r) = true≢false (sym r ∙ not_ragged case_words cases g.all_whole.cases_whole)
  none_first g (a_bad_chain a f) = true≢false (sym f.is_bad ∙ not_bad_chain _ _ (g.good_chains _ f.within))
  none_first g (a_bad_step a c f) = true≢false (sym f.is_bad ∙ not_bad_step _ (g.good_steps _ f.within))
  none_first g (a_bad_switch a c s f) =
      true≢false (sym f.is_bad ∙ not_bad_switch _ _ _ (g.good_switches _ f.within))

  pub good_passed : GoodTables chains steps switches cases ranges → told ≡ fine
  good_passed g = go outcome
    where
      go : Outcome told → told ≡ fine
      go (good h e) = e
      go (refused f e) = absurd (none_first g f)
