-- The targets of an instruction: how many there are, and the one of each number.
use mathlib.Core.Bool.{Bool, true, false, ◌&&◌, cond}
use mathlib.Core.List.{List, [], ◌∷◌}
use mathlib.Core.Logic.{◌⊎◌, inl, inr}
use mathlib.Core.Path.{◌≡◌, refl, sym, ap, ◌∙◌}
use Prim.Native.Nat.{ℕ, zero, suc, ◌+◌, ◌*◌, ◌≤◌, ◌<◌}
use native.Mathlib.Nat.{not-suc-le-zero, le_of_suc-le-suc}
use native.Mathlib.Omega.{arith}
use borrow.Author.Tests.{eq-eqb, ne_eqb, eqb-true}
use lib.Dec.{eqb, leb}
use lib.ListN.{length, get_or}
use Rattle.code.specs.Layout.{among, tag_at, index_at, target_at}
use Rattle.code.specs.Tags.{byte, bytes, SWITCH}
use Rattle.pools.specs.Pools.{switch_at}
use Rattle.rules.specs.declared.shapes.Flow.{Flow}
use Rattle.rules.specs.declared.shapes.Flow.TheVariants.{Next, IterInit, PopHandler, IterDrop, IterNext, PushHandler}
use Rattle.rules.specs.declared.shapes.Flow.TheVariants.{Branch, Jump, Leave}
use Rattle.rules.specs.declared.shapes.Flow.TheVariants as flows
use Rattle.rules.specs.Edges.{jumping, arms_of, targets_of, targets}
use Rattle.rules.specs.Script.{Script, tag_of}
use Rattle.rules.specs.Shapes.{digit, Flows}
use Rattle.rules.specs.There.{SwitchWhole, SwitchEntry, SwitchThere, HasSwitchEntry, HasSwitch}
use Rattle.code.specs.Width.{width_at}
use Rattle.rules.proofs.Arms.{arms_length}
use Rattle.rules.proofs.Operands.{target_there, switch_there}

pub length_cond : (a b : Bool) (xs ys : List ℕ) → length (cond a xs (cond b ys [])) ≡ cond a (length xs) (cond b (length ys) 0)
length_cond true b xs ys = refl
length_cond false true xs ys = refl
length_cond false false xs ys = refl

-- how many targets there are depends on no case and no range
pub as_many : (code switches cases ranges cases' ranges' : List ℕ) (p : ℕ)
    → length (targets_of code switches cases ranges p) ≡ length (targets_of code switches cases' ranges' p)
unfolding targets_of
as_many code switches cases ranges cases' ranges' p =
    let jumps = among (tag_at code p) (bytes jumping) in
    let switch = eqb (tag_at code p) (byte SWITCH) in
    let entry = switch_at switches (index_at code p) in
    length_cond jumps switch (target_at code p ∷ []) (arms_of cases ranges entry)
    ∙ rw (arms_length cases ranges entry, ← arms_length cases' ranges' entry)
    (sym (length_cond jumps switch (target_at code p ∷ []) (arms_of cases' ranges' entry)))

-- the number of targets of the instruction at a place of a script, by its flow
abbrev number : Script → ℕ → Flow → ℕ
number S p flow =
    cond (leb 4 (digit flow) && leb (digit flow) 7) 1
    (cond (eqb (digit flow) 8)
    (length (arms_of S.pools.cases S.pools.ranges (switch_at S.pools.switches (index_at S.code p)))) 0)

module _ (S : Script) (p : ℕ) (flow : Flow) (F : Flows (tag_of S p) flow) where
  counted : number S p flow ≡ length (targets S p)
  unfolding targets_of
  counted =
      sym (rw (← F.jumps, ← F.switches)
      (length_cond (among (tag_of S p) (bytes jumping)) (eqb (tag_of S p) (byte SWITCH)) (target_at S.code p ∷ [])
      (arms_of S.pools.cases S.pools.ranges (switch_at S.pools.switches (index_at S.code p)))))

  at_flow : (known : Flow) → flow ≡ known → number S p known ≡ length (targets S p)
  at_flow known e = rw e at counted

  pub one_target : (flow ≡ IterNext) ⊎ ((flow ≡ PushHandler) ⊎ ((flow ≡ Branch) ⊎ (flow ≡ Jump)))
      → 1 ≡ length (targets S p)
  one_target (inl e) = at_flow IterNext e
  one_target (inr (inl e)) = at_flow PushHandler e
  one_target (inr (inr (inl e))) = at_flow Branch e
  one_target (inr (inr (inr e))) = at_flow Jump e

  pub no_target : (flow ≡ IterNext → ⊥) → (flow ≡ PushHandler → ⊥) → (flow ≡ Branch → ⊥) → (flow ≡ Jump → ⊥)
      → (flow ≡ flows.Switch → ⊥) → 0 ≡ length (targets S p)
  no_target a b c d e = go flow refl
    where
      go : (known : Flow) → flow ≡ known → 0 ≡ length (targets S p)
      go Next q = at_flow Next q
      go IterInit q = at_flow IterInit q
      go PopHandler q = at_flow PopHandler q
      go IterDrop q = at_flow IterDrop q
      go IterNext q = absurd (a q)
      go PushHandler q = absurd (b q)
      go Branch q = absurd (c q)
      go Jump q = absurd (d q)
      go flows.Switch q = absurd (e q)
      go Leave q = at_flow Leave q

  module _ (e : flow ≡ flows.Switch) where
    pub is_switch : tag_of S p ≡ byte SWITCH
    is_switch = eqb-true (tag_of S p) (byte SWITCH) (F.switches ∙ eq-eqb (digit flow) 8 (ap digit e))

    pub switch_targets : (i : ℕ) → i ≡ index_at S.code p
        → get_or S.pools.switches (i * 5 + 1) 0 + get_or S.pools.switches (i * 5 + 3) 0 + 1 ≡ length (targets S p)
    unfolding switch_at
    switch_targets i q =
        rw q (sym (arms_length S.pools.cases S.pools.ranges (switch_at S.pools.switches (index_at S.code p)))
        ∙ at_flow flows.Switch e)

-- an instruction whose switch is there whole has its entry
pub switch_entry_of : {code switches cases ranges : List ℕ} {p : ℕ} → SwitchThere code switches cases ranges p
    → SwitchEntry code switches p
switch_entry_of there = record { entry = λ e. (there.switch e).entry }

module _ (S : Script) (p : ℕ) where
  -- ---- a switch's index is there, and so is its entry

  pub switch_index : 0 < width_at S.code p → tag_of S p ≡ byte SWITCH → p + 3 ≤ length S.code
  switch_index wide e = switch_there S.code p wide e

  pub switch_entry : HasSwitchEntry S p → tag_of S p ≡ byte SWITCH → (i : ℕ) → i ≡ index_at S.code p
      → i * 5 + 4 < length S.pools.switches
  switch_entry there e i q = omega (arith, q, there.entry e)

  -- ---- the target of a number

  module _ {k : ℕ} (below : k < length (targets S p)) where
    -- a switch's targets are its arms
    module _ (e : tag_of S p ≡ byte SWITCH) where
      arms : targets S p ≡ arms_of S.pools.cases S.pools.ranges (switch_at S.pools.switches (index_at S.code p))
      unfolding targets_of among
      arms = rw e refl

      -- the entry that the two bytes after the tag name
      module _ (i : ℕ) (named : i ≡ index_at S.code p) where
        pub arm_whole : HasSwitch S p → SwitchWhole S.pools.switches S.pools.cases S.pools.ranges i
        arm_whole there = rw named (there.switch e)

        pub arm_below : k < length (arms_of S.pools.cases S.pools.ranges (switch_at S.pools.switches i))
        arm_below = rw (named, ← arms) below

        pub arm_target : (r : ℕ) → r ≡ get_or (arms_of S.pools.cases S.pools.ranges (switch_at S.pools.switches i)) k 0
            → r ≡ get_or (targets S p) k 0
        arm_target r t = rw (arms, ← named) t

    -- any other instruction that has a target has just one, the number after its tag
    module _ (n : tag_of S p ≡ byte SWITCH → ⊥) where
      jumps : among (tag_of S p) (bytes jumping) ≡ true
      unfolding targets_of
      jumps = go (among (tag_of S p) (bytes jumping)) (rw (ne_eqb (tag_of S p) (byte SWITCH) n) at below)
        where
          go : (b : Bool) → k < length (cond b (target_at S.code p ∷ []) []) → b ≡ true
          go true l = refl
          go false l = absurd (not-suc-le-zero l)

      one : targets S p ≡ target_at S.code p ∷ []
      unfolding targets_of
      one = rw jumps refl

      pub target_index : 0 < width_at S.code p → p + 5 ≤ length S.code
      target_index wide = target_there S.code p wide jumps

      pub only_target : target_at S.code p ≡ get_or (targets S p) k 0
      only_target = rw one (first k (rw one at below))
        where
          first : (k : ℕ) → k < 1 → target_at S.code p ≡ get_or (target_at S.code p ∷ []) k 0
          first zero l = refl
          first (suc k) l = absurd (not-suc-le-zero (le_of_suc-le-suc l))
