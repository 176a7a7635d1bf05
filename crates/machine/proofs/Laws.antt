-- The laws of a machine: all that the theorems ask of one. The machine of a chunk has to keep them.
use mathlib.Core.Path.{◌≡◌, sym, subst}
use mathlib.Core.Bool.{true}
use mathlib.Core.List.{List}
use mathlib.Core.Logic.{◌⊎◌, ◌↔◌}
use mathlib.Core.Option.{Option, none}
use Prim.Native.Nat.{ℕ, ◌+◌, ◌≤◌, ◌<◌}
use native.Mathlib.Omega.{arith}
use lib.ListN.{length}
use Rattle.machine.specs.Lists.{◌∈◌}
use Rattle.answer.specs.Depths.{Item}
use Rattle.answer.specs.declared.Depths.{Depths}
use Rattle.machine.specs.Walk.{Ruling, denies, gives, Machine, fall_to}

-- An instruction of the chunk starts here.
pub record InChunk {R : Type 0} (M : Machine R) (p : ℕ) : Type 0 where
  pub below : p < M.end
  pub starts : M.start p ≡ true

-- The rule lets the item through.
pub record Passes {R : Type 0} (M : Machine R) (it : Item) : Type 0 where
  pub post : ℕ
  pub fall : Option Depths
  pub jumps : List Item
  pub ruled : M.rule it.place it.depths ≡ gives post fall jumps

-- `P` holds of whatever the ruling gives.
abbrev pub Given : {R : Type 0} → (ℕ → Option Depths → List Item → Type 0) → Ruling R → Type 0
Given P (denies r) = Unit {0}
Given P (gives post fall jumps) = P post fall jumps

-- From d to e no depth grows by more than one.
pub record Near (d e : Depths) : Type 0 where
  pub operands : e.operands ≤ d.operands + 1
  pub iterators : e.iterators ≤ d.iterators + 1
  pub handlers : e.handlers ≤ d.handlers + 1

-- So many operands are no more than there are at d, or one of the edges takes as many along.
abbrev pub Carried : ℕ → Depths → List Item → Type 0
Carried post d edges = (post ≤ d.operands) ⊎ ((e : Item) × (e ∈ edges) × (post ≤ e.depths.operands))

-- What the rule may give at an item.
pub record Fair {R : Type 0} (M : Machine R) (degree : ℕ → ℕ) (it : Item) (post : ℕ) (fall : Option Depths) (jumps : List Item)
    : Type 0 where
  -- the jumps lead to named places
  pub named : (j : Item) → j ∈ jumps → M.named j.place ≡ true
  -- the number of the edges is that of the place, whatever the depths
  pub count : length (fall_to (M.next it.place) fall jumps) ≡ degree it.place
  pub near : (e : Item) → e ∈ fall_to (M.next it.place) fall jumps → Near it.depths e.depths
  pub carried : Carried post it.depths (fall_to (M.next it.place) fall jumps)

-- `degree`: how many edges leave the instruction at a place. `starts`: where the instructions of the chunk start.
pub record Laws {R : Type 0} (M : Machine R) (degree : ℕ → ℕ) (starts : List ℕ) : Type 0 where
  -- the entry is named, and an instruction starts there unless the chunk is empty
  pub entry_named : M.named M.entry ≡ true
  pub entry_starts : M.entry < M.end → M.start M.entry ≡ true
  -- the next place is above this one, no instruction starts between the two, and one starts there unless the chunk has ended
  pub next_above : {p : ℕ} → InChunk M p → p < M.next p
  pub next_least : {p q : ℕ} → InChunk M p → InChunk M q → p < q → M.next p ≤ q
  pub next_starts : {p : ℕ} → InChunk M p → M.next p < M.end → M.start (M.next p) ≡ true
  pub listed : {p : ℕ} → InChunk M p → p ∈ starts
  -- a jump passes its tests exactly if an instruction of the chunk starts at its target
  pub judged : (p q : ℕ) → M.judge p q ≡ none ↔ InChunk M q
  pub fair : (it : Item) → InChunk M it.place → Given (Fair M degree it) (M.rule it.place it.depths)

module _ {R : Type 0} {M : Machine R} {degree : ℕ → ℕ} {starts : List ℕ} (L : Laws M degree starts) where
  pub fair_at : {it : Item} → InChunk M it.place → (g : Passes M it) → Fair M degree it g.post g.fall g.jumps
  fair_at {it} c g = subst (Given (Fair M degree it)) g.ruled (L.fair it c)

  -- No two instructions have the same one next.
  pub next_injective : {p q : ℕ} → InChunk M p → InChunk M q → M.next p ≡ M.next q → p ≡ q
  next_injective c d e = omega (arith, not_below c d e, not_below d c (sym e))
    where
      not_below : {p q : ℕ} → InChunk M p → InChunk M q → M.next p ≡ M.next q → ¬ (p < q)
      not_below c d e h = omega (arith, L.next_least c d h, L.next_above d)
