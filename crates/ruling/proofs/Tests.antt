-- Each test of an instruction from what the code finds, and the rule as these tests in their order.
use mathlib.Core.Bool.{Bool, true, false, ◌&&◌, cond}
use mathlib.Core.List.{List}
use mathlib.Core.Logic.{◌⊎◌, inl, inr}
use mathlib.Core.Option.{Option, none, some}
use mathlib.Core.Path.{◌≡◌, refl, sym, ◌∙◌}
use Prim.Native.Nat.{ℕ, ◌+◌, ◌-◌, ◌^◌, ◌≤◌, ◌<◌}
use native.Mathlib.Omega.{arith}
use borrow.Author.Tests.{lt-ltb, le-ltb, le-leb, lt-leb, ltb-false}
use lib.Dec.{ltb, leb}
use lib.ListN.{length}
use Rattle.code.specs.Layout.{tag_at}
use Rattle.code.specs.Width.{width_of, width_at}
use Rattle.code.proofs.Widths.{width_there}
use Rattle.rules.specs.Acts.{Acts}
use Rattle.answer.specs.declared.Refusal.{Refusal}
use Rattle.answer.specs.declared.Refusal.TheVariants.{MissingCaps, Underflow, FallsOffTheEnd, IteratorUnderflow}
use Rattle.answer.specs.declared.Refusal.TheVariants.{HandlerUnderflow}
use Rattle.answer.specs.declared.Depths.{Depths}
use Rattle.rules.specs.declared.Effect.{Effect}
use Rattle.rules.specs.Edges.{falls, plain, after, after_of, jumped_of, next}
use Rattle.rules.specs.Effects.{pops, pushes}
use Rattle.machine.specs.Walk as machine
use Rattle.rules.specs.Needs.{iterators_needed, handlers_needed, lacks as lacksAt, operands_needed}
use Rattle.demand.specs.Chunk.{needs_test, rule}
use Rattle.rules.specs.Script.{Script, tag_of}
use Rattle.demand.specs.Span.{Span}
use Rattle.rules.specs.Shapes.{Flows}
use Rattle.rules.specs.declared.shapes.Flow.{Flow}
use Rattle.rules.specs.There.{HeldBy}
use Rattle.rules.specs.FromLists.{script}
use Rattle.rules.proofs.Amounts.{pops_within_needs, pushes_at_most_one}
use Rattle.answer.proofs.Apart.{zero≢one}
use Rattle.demand.proofs.Says as says
use Rattle.std.specs.Prelude.{Result, Ok, Err}
use Rattle.ruling.specs.declared.Edges.{Edges}
use Rattle.answer.specs.Answer.{told, unless}
use Rattle.ruling.specs.Ruling.{edges_from, leaving, Settles, settled, answers, edges_of, ruled}

-- ---- what an instruction needs

module _ (lacks tag need at : ℕ) (d : Depths) where
  pub no_rights : 0 < lacks → some (MissingCaps at lacks) ≡ needs_test lacks tag need at d
  unfolding needs_test
  no_rights h = rw (lt-ltb 0 lacks h)

  module _ (rights : lacks ≤ 0) where
    pub no_operands : d.operands < need → some (Underflow at need d.operands) ≡ needs_test lacks tag need at d
    unfolding needs_test
    no_operands h = rw (le-ltb 0 lacks rights, lt-ltb d.operands need h)

    module _ (operands : need ≤ d.operands) {n : ℕ} (e : n ≡ iterators_needed tag) where
      pub no_iterator : d.iterators < n → some (IteratorUnderflow at) ≡ needs_test lacks tag need at d
      unfolding needs_test
      no_iterator h = rw (le-ltb 0 lacks rights, le-ltb d.operands need operands, ← e, lt-ltb d.iterators n h)

      module _ (iterators : n ≤ d.iterators) {m : ℕ} (f : m ≡ handlers_needed tag) where
        pub no_handler : d.handlers < m → some (HandlerUnderflow at) ≡ needs_test lacks tag need at d
        unfolding needs_test
        no_handler h =
            rw (le-ltb 0 lacks rights, le-ltb d.operands need operands, ← e, le-ltb d.iterators n iterators, ← f, lt-ltb d.handlers m h)

        pub all_there : m ≤ d.handlers → none ≡ needs_test lacks tag need at d
        unfolding needs_test
        all_there h =
            rw (le-ltb 0 lacks rights, le-ltb d.operands need operands, ← e, le-ltb d.iterators n iterators, ← f, le-ltb d.handlers m h)

-- the depths that are there where none of the tests refuses
pub record Enough (tag need : ℕ) (d : Depths) : Type 0 where
  pub operands : need ≤ d.operands
  pub iterators : iterators_needed tag ≤ d.iterators
  pub handlers : handlers_needed tag ≤ d.handlers

pub enough : (lacks tag need at : ℕ) (d : Depths) {r : Result (Unit {0}) Refusal} → told r ≡ needs_test lacks tag need at d → r ≡ Ok tt → Enough tag need d
unfolding told needs_test
enough lacks tag need at d e p =
    go (ltb 0 lacks) (ltb d.operands need) refl (ltb d.iterators (iterators_needed tag)) refl (ltb d.handlers (handlers_needed tag)) refl
    (rw p at e)
  where
    go : (s : Bool) → (a : Bool) → ltb d.operands need ≡ a → (b : Bool) → ltb d.iterators (iterators_needed tag) ≡ b
        → (f : Bool) → ltb d.handlers (handlers_needed tag) ≡ f
        → none ≡ cond s (some (MissingCaps at lacks)) (cond a (some (Underflow at need d.operands))
        (cond b (some (IteratorUnderflow at)) (cond f (some (HandlerUnderflow at)) none))) → Enough tag need d
    go true a qa b qb f qf n = absurd (zero≢one (cc))
    go false true qa b qb f qf n = absurd (zero≢one (cc))
    go false false qa true qb f qf n = absurd (zero≢one (cc))
    go false false qa false qb true qf n = absurd (zero≢one (cc))
    go false false qa false qb false qf n = record {
      operands = ltb-false d.operands need qa;
      iterators = ltb-false d.iterators (iterators_needed tag) qb;
      handlers = ltb-false d.handlers (handlers_needed tag) qf;
    }

-- ---- the way on

module _ (tag pops pushes next end : ℕ) (d : Depths) {plainly : Bool} (e : plainly ≡ plain tag) where
  pub falls_off : plainly ≡ true → end ≤ next → Err FallsOffTheEnd ≡ leaving tag pops pushes next end d
  unfolding leaving
  falls_off t h = rw (← e, t, le-leb end next h)

  pub goes : (plainly ≡ false) ⊎ (next < end) → {after jumped : Depths} {through : Bool}
      → after ≡ after_of tag pops pushes d → jumped ≡ jumped_of tag d after → through ≡ falls tag
      → Ok (record { after = after; jumped = jumped; next = next; falls = through }) ≡ leaving tag pops pushes next end d
  unfolding leaving
  goes way a j f = rw (f, j, a) (by way)
    where
      given : Result Edges Refusal
      given = Ok (edges_from tag pops pushes next d)

      either : (b : Bool) → given ≡ cond (b && false) (Err FallsOffTheEnd) given
      either true = refl
      either false = refl

      by : (plainly ≡ false) ⊎ (next < end) → given ≡ cond (plain tag && leb end next) (Err FallsOffTheEnd) given
      by (inl n) = rw (← e, n)
      by (inr h) = rw (lt-leb end next h) (either (plain tag))

-- what the way on asks of an instruction that has its depths
module _ {flow : Flow} {effect : Effect} {d : Depths} (S : Settles flow effect d) (there : Enough S.tag effect.needs d) where
  pub held_by : HeldBy flow d
  held_by = record {
    tag = S.tag;
    flows = S.flows;
    held = record { iterators = there.iterators; handlers = there.handlers; iterators_fit = S.iterators_fit; handlers_fit = S.handlers_fit };
  }

  pub pops_there : effect.pops ≤ d.operands
  pops_there = omega (arith, S.pops_needed, there.operands)

  pub pushes_fit : d.operands - effect.pops + effect.pushes < 2 ^ 32
  pushes_fit = omega (arith, S.pushes_one, S.operands_fit)

-- an instruction that has its width is such
pub settles : {code chains : List ℕ} {at : ℕ} {flow : Flow} {effect : Effect} {d : Depths} → 0 < width_at code at → Flows (tag_at code at) flow → Acts code chains at effect
    → d.operands + 1 < 2 ^ 32 → d.iterators + 1 < 2 ^ 32 → d.handlers + 1 < 2 ^ 32 → Settles flow effect d
settles {code} {chains} {at} wide f acts o i h = record {
  tag = tag_at code at;
  flows = f;
  pops_needed = omega (arith, acts.needed, acts.popped, pops_within_needs code chains at wide);
  pushes_one = omega (arith, acts.pushed, pushes_at_most_one code chains at wide);
  operands_fit = o;
  iterators_fit = i;
  handlers_fit = h;
}

-- the place after an instruction that has its width
pub next_within : (code : List ℕ) (at : ℕ) → 0 < width_at code at → {w : ℕ} → w ≡ width_at code at → at + w ≤ length code
next_within code at wide e = omega (arith, (width_there width_of code at wide).within)

-- ---- the rule

pub stops : {r : Result (Unit {0}) Refusal} {answer : Refusal} {test : Option Refusal} (rest : Result Edges Refusal) → told r ≡ test → r ≡ Err answer
    → Err answer ≡ unless Err test rest
unfolding told unless
stops rest e p = rw (← e, p)

pub goes_on : {r : Result (Unit {0}) Refusal} {test : Option Refusal} (rest : Result Edges Refusal) → told r ≡ test → r ≡ Ok tt
    → rest ≡ unless Err test rest
unfolding told unless
goes_on rest e p = rw (← e, p)

module _ (S : Script) (span : Span) (p : ℕ) (d : Depths) where
  -- what is left to say of an instruction that has what it needs
  abbrev rest : Result Edges Refusal
  rest = leaving (tag_of S p) (pops S.code S.pools.chains p) (pushes S.code S.pools.chains p) (next S p) span.end d

  -- the rule tests what it needs, and then says the rest
  abbrev tested : Option Refusal
  tested = needs_test (lacksAt S p) (tag_of S p) (operands_needed S p) p d

  in_order : ruled S span p d ≡ unless Err tested rest
  unfolding ruled answers rule leaving unless
  in_order = go tested (plain (tag_of S p) && leb span.end (next S p))
    where
      given : machine.Ruling Refusal
      given = machine.gives (after S p d).operands (says.fall S span p d (falls (tag_of S p))) (says.jumps S span p d)

      go : (test : Option Refusal) (off : Bool)
          → answers (unless machine.denies test (cond off (machine.denies FallsOffTheEnd) given)) (edges_of S p d)
          ≡ unless Err test (cond off (Err FallsOffTheEnd) (Ok (edges_of S p d)))
      go (some answer) off = refl
      go none true = refl
      go none false = refl

  -- so it says what the code settles
  pub rule_settled : {missing w : ℕ} {effect : Effect}
      → missing ≡ lacksAt S p
      → Acts S.code S.pools.chains p effect → w ≡ width_at S.code p
      → {r : Result Edges Refusal} → r ≡ settled missing (tag_of S p) effect p (p + w) span.end d → r ≡ ruled S span p d
  unfolding next
  rule_settled lacks acts width q = rw (lacks, acts.needed, acts.popped, acts.pushed, width) at q ∙ sym in_order

-- what the rule says looks at no switch, and at no constant, token or op-assignment
pub no_switch_asked : (S : Script) (switches cases ranges : List ℕ) (span : Span) (p : ℕ) (d : Depths) → ruled S span p d
    ≡ ruled (script S.rights S.pools.names S.pools.chains S.pools.steps switches cases ranges S.code) span p d
unfolding next
no_switch_asked S switches cases ranges span p d =
    in_order S span p d
    ∙ sym (in_order (script S.rights S.pools.names S.pools.chains S.pools.steps switches cases ranges S.code) span p d)
