-- What the tests of an entry say: each part of a test in its turn, and that an entry is good exactly where none finds
-- it bad.
use mathlib.Core.Bool.{Bool, true, false, ◌||◌, true≢false}
use mathlib.Core.Path.{◌≡◌, refl, ◌∙◌}
use Prim.Native.Nat.{ℕ, ◌+◌, ◌≤◌}
use borrow.Author.Tests.{le-ltb, ltb-false}
use lib.Dec.{ltb}
use Rattle.pools.specs.Good.{GoodChain, GoodStep, GoodSwitch}
use Rattle.pools.specs.Pools.{Chain, Step, Switch}
use Rattle.pools.specs.Tables.{past, bad_chain, bad_step, bad_switch}

-- ---- a test of several parts

neither_left : (a b : Bool) → (a || b) ≡ false → a ≡ false
neither_left true b e = e
neither_left false b e = refl

neither_right : (a b : Bool) → (a || b) ≡ false → b ≡ false
neither_right true b e = absurd (true≢false e)
neither_right false b e = e

-- ---- one entry

module _ (steps : ℕ) (c : Chain) where
  by_steps : c.root ≤ 3 → c.tail ≤ 2 → bad_chain steps c ≡ past steps c.first_step c.steps
  unfolding bad_chain
  by_steps r t = simp (le-ltb 3 c.root r, le-ltb 2 c.tail t)

  pub not_bad_chain : GoodChain steps c → bad_chain steps c ≡ false
  not_bad_chain g = by_steps g.root g.tail ∙ le-ltb steps (c.first_step + c.steps) g.within

  pub good_chain : bad_chain steps c ≡ false → GoodChain steps c
  unfolding bad_chain
  good_chain e =
      let known = neither_left (ltb 3 c.root || ltb 2 c.tail) (past steps c.first_step c.steps) e in
      record {
        root = ltb-false 3 c.root (neither_left (ltb 3 c.root) (ltb 2 c.tail) known);
        tail = ltb-false 2 c.tail (neither_right (ltb 3 c.root) (ltb 2 c.tail) known);
        within = ltb-false steps (c.first_step + c.steps) (neither_right (ltb 3 c.root || ltb 2 c.tail) _ e);
      }

module _ (s : Step) where
  pub not_bad_step : GoodStep s → bad_step s ≡ false
  unfolding bad_step
  not_bad_step g = le-ltb 2 s.kind g.kind

  pub good_step : bad_step s ≡ false → GoodStep s
  unfolding bad_step
  good_step e = record { kind = ltb-false 2 s.kind e }

module _ (cases ranges : ℕ) (s : Switch) where
  by_ranges : past cases s.first_case s.cases ≡ false
      → bad_switch cases ranges s ≡ past ranges s.first_range s.ranges
  unfolding bad_switch
  by_ranges e = simp e

  pub not_bad_switch : GoodSwitch cases ranges s → bad_switch cases ranges s ≡ false
  not_bad_switch g =
      by_ranges (le-ltb cases (s.first_case + s.cases) g.cases_within)
      ∙ le-ltb ranges (s.first_range + s.ranges) g.ranges_within

  pub good_switch : bad_switch cases ranges s ≡ false → GoodSwitch cases ranges s
  unfolding bad_switch
  good_switch e =
      let few = past cases s.first_case s.cases in
      record {
        cases_within = ltb-false cases (s.first_case + s.cases) (neither_left few _ e);
        ranges_within = ltb-false ranges (s.first_range + s.ranges) (neither_right few _ e);
      }
