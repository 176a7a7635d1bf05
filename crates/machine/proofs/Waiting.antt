-- What waits after an item enters: its edges, and what waited before.
use mathlib.Core.Path.{◌≡◌}
use mathlib.Core.List.{List, [], ◌∷◌}
use mathlib.Core.Logic.{◌⊎◌, inl, inr}
use mathlib.Core.Option.{Option, none, some}
use Prim.Native.Nat.{ℕ, ◌+◌}
use native.Mathlib.Omega.{arith}
use lib.ListN.{length}
use Rattle.machine.specs.Lists.{◌∈◌, here, there}
use Rattle.answer.specs.Depths.{Item}
use Rattle.answer.specs.declared.Depths.{Depths}
use Rattle.machine.specs.Walk.{Machine, fall_to, push}
use Rattle.machine.proofs.Lists.{∉-nil}
use Rattle.machine.proofs.Laws.{Passes}
use Rattle.machine.proofs.Paths.{edges, edges_are}

-- The work list after an item that enters.
abbrev pub waiting : {R : Type 0} (M : Machine R) (it : Item) → Passes M it → List Item → List Item
waiting M it g w = fall_to (M.next it.place) g.fall (push g.jumps w)

-- zs holds what xs and ys hold together.
pub record Joined (xs ys zs : List Item) : Type 0 where
  pub total : length zs ≡ length xs + length ys
  pub left : {z : Item} → z ∈ xs → z ∈ zs
  pub right : {z : Item} → z ∈ ys → z ∈ zs
  pub cases : {z : Item} → z ∈ zs → (z ∈ xs) ⊎ (z ∈ ys)

joined_nil : (ys : List Item) → Joined [] ys ys
joined_nil ys = record { total = omega arith; left = λ m. absurd (∉-nil m); right = λ m. m; cases = λ m. inr m }

-- One more element: put in front, or taken over from the second list.
joined_cons : (x : Item) {xs ys zs : List Item} → Joined xs ys zs → Joined (x ∷ xs) ys (x ∷ zs)
joined_cons x {xs} {ys} {zs} J = record {
  total = omega (arith, J.total);
  left = left;
  right = λ m. there (J.right m);
  cases = cases;
}
  where
    left : {z : Item} → z ∈ (x ∷ xs) → z ∈ (x ∷ zs)
    left (here e) = here e
    left (there m) = there (J.left m)

    after : {z : Item} → (z ∈ xs) ⊎ (z ∈ ys) → (z ∈ (x ∷ xs)) ⊎ (z ∈ ys)
    after (inl m) = inl (there m)
    after (inr m) = inr m

    cases : {z : Item} → z ∈ (x ∷ zs) → (z ∈ (x ∷ xs)) ⊎ (z ∈ ys)
    cases (here e) = inl (here e)
    cases (there m) = after (J.cases m)

joined_move : (x : Item) {xs ys zs : List Item} → Joined xs (x ∷ ys) zs → Joined (x ∷ xs) ys zs
joined_move x {xs} {ys} {zs} J = record {
  total = omega (arith, J.total);
  left = left;
  right = λ m. J.right (there m);
  cases = λ m. cases (J.cases m);
}
  where
    left : {z : Item} → z ∈ (x ∷ xs) → z ∈ zs
    left (here e) = J.right (here e)
    left (there m) = J.left m

    cases : {z : Item} → (z ∈ xs) ⊎ (z ∈ (x ∷ ys)) → (z ∈ (x ∷ xs)) ⊎ (z ∈ ys)
    cases (inl m) = inl (there m)
    cases (inr (here e)) = inl (here e)
    cases (inr (there m)) = inr m

pub push_joins : (js w : List Item) → Joined js w (push js w)
unfolding push
push_joins [] w = joined_nil w
push_joins (j ∷ js) w = joined_move j (push_joins js (j ∷ w))

fall_joins : (q : ℕ) (fall : Option Depths) {xs ys zs : List Item} → Joined xs ys zs → Joined (fall_to q fall xs) ys (fall_to q fall zs)
unfolding fall_to
fall_joins q none J = J
fall_joins q (some d) J = joined_cons (record { place = q; depths = d }) J

module _ {R : Type 0} (M : Machine R) {it : Item} (g : Passes M it) where
  pub waiting_joins : (w : List Item) → Joined (edges M it) w (waiting M it g w)
  waiting_joins w = rw (edges_are M g) (fall_joins (M.next it.place) g.fall (push_joins g.jumps w))

  -- A jump is an edge.
  pub jump_edge : {j : Item} → j ∈ g.jumps → j ∈ edges M it
  unfolding fall_to
  jump_edge {j} m = rw (edges_are M g) (go g.fall)
    where
      go : (fall : Option Depths) → j ∈ fall_to (M.next it.place) fall g.jumps
      go none = m
      go (some d) = there m
