-- The parts of a turn: jumps pushed one by one, the item pushed last taken back.
use mathlib.Core.List.{List}
use mathlib.Core.Path.{◌≡◌, refl, sym, ap, ◌∙◌}
use Prim.Native.Nat.{ℕ, suc, ◌+◌, ◌-◌, ◌*◌, ◌≤◌, ◌<◌}
use native.Mathlib.Omega.{arith}
use lib.ListN.{length, get_or, drop, drop_of_length-le}
use lib.Seq.{drop-cons}
use Rattle.order.specs.Order.{below}
use Rattle.answer.specs.declared.Depths.{Depths}
use Rattle.answer.specs.Depths.{zeros}
use Rattle.words.specs.Stack.{item_at, items, put, put_all, Clear}
use Rattle.words.proofs.Items.{length_put, items_on, items_kept, clear_top}
use Rattle.walk.specs.declared.Hand.{Hand}
use Rattle.walk.specs.Leaving.{jumps_to, Pushed, TakenBack}

-- ---- jumps

module _ (ts : List ℕ) (d : Depths) (waiting : ℕ) (before : List ℕ) where
  -- the first k are pushed, and pushing the others comes to pushing all
  pub record Pushing (work : List ℕ) (k : ℕ) : Type 0 where
    pub rest : put_all work (waiting + k) (jumps_to d (drop k ts)) ≡ put_all before waiting (jumps_to d ts)
    pub long : length work ≡ length before
    pub upto : k ≤ length ts

  pub none_pushed : Pushing before 0
  none_pushed = let same : waiting + 0 ≡ waiting = omega arith in record { rest = rw same refl; long = refl; upto = omega arith }

  pub one_pushed : {work work' : List ℕ} {k : ℕ} (target : ℕ) → Pushing work k → k < length ts → target ≡ get_or ts k 0
      → work' ≡ put work (waiting + k) (record { place = target; depths = d }) → Pushing work' (k + 1)
  unfolding put_all
  one_pushed {work} {work'} {k} target p h e w = record {
    rest = rw (w, shift, e) next;
    long = ap length w ∙ length_put work (waiting + k) _ ∙ p.long;
    upto = omega arith;
  }
    where
      shift : waiting + (k + 1) ≡ waiting + k + 1
      shift = omega arith

      one_more : k + 1 ≡ suc k
      one_more = omega arith

      next : put_all (put work (waiting + k) (record { place = get_or ts k 0; depths = d })) (waiting + k + 1) (jumps_to d (drop (k + 1) ts)) ≡ put_all before waiting (jumps_to d ts)
      next = rw one_more (ap (λ (js : List ℕ). put_all work (waiting + k) (jumps_to d js)) (sym (drop-cons ts k 0 h)) ∙ p.rest)

  pub all_pushed : {work : List ℕ} {k : ℕ} (r : ℕ) → Pushing work k → length ts ≤ k → r ≡ waiting + length ts → Pushed ts d waiting before r work
  unfolding put_all
  all_pushed {work} {k} r p h e = record { count = e; pushed = (rw (drop_of_length-le ts {i = k} h) at p.rest) }

-- ---- back

pub taken_back : (keys : List ℕ) (h : Hand) {work work' : List ℕ} (place : ℕ) (d : Depths) (slot : ℕ) → (h.waiting ≡ 0 → ⊥) → h.waiting * 4 ≤ length work
    → Clear work h.waiting → record { place = place; depths = d } ≡ item_at work (h.waiting - 1)
    → work' ≡ put work (h.waiting - 1) (record { place = 0; depths = zeros }) → slot ≡ below keys place
    → TakenBack keys h work
    (record { place = place; depths = d; slot = slot; waiting = h.waiting - 1; counts = h.counts }) work'
taken_back keys h {work} {work'} place d slot some room clear top w found = record {
  waits = ap (λ (n : ℕ). items work n) less ∙ items_on work (h.waiting - 1) ∙ rw (w, ← top, items_kept work (h.waiting - 1) (record { place = 0; depths = zeros }) (h.waiting - 1) (omega arith)) refl;
  counts = refl;
  slot = found;
  clear = rw w (clear_top work (h.waiting - 1) (omega arith) (record { clear = λ i l. clear.clear i (omega arith) }));
}
  where
    less : h.waiting ≡ h.waiting - 1 + 1
    less = omega arith
