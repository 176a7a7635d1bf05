-- No instruction is entered twice. A named place is looked up before it is entered. Any other place is entered only from the one
-- instruction just before it, and at once, so that of all that waits only the top can be such a place.
use mathlib.Core.Path.{◌≡◌, refl, sym, ap, ◌∙◌}
use mathlib.Core.Bool.{Bool, true, false}
use mathlib.Core.List.{List, [], ◌∷◌}
use mathlib.Core.Logic.{◌⊎◌, inl, inr}
use mathlib.Core.Option.{Option, none, some}
use Prim.Native.Nat.{ℕ, ◌<◌}
use native.Mathlib.Omega.{arith}
use Rattle.machine.specs.Lists.{◌∈◌, here, there, NoRepeats}
use Rattle.answer.specs.Depths.{Item}
use Rattle.answer.specs.declared.Depths.{Depths}
use Rattle.machine.specs.Walk.{Machine, fall_to, Book, push, Log, log}
use Rattle.answer.proofs.Apart.{zero≢one}
use Rattle.machine.proofs.Lists.{∈-cases}
use Rattle.machine.proofs.Laws.{InChunk, Passes, Laws, fair_at, next_injective}
use Rattle.machine.proofs.Tables.{places, lookup_none}
use Rattle.machine.proofs.Waiting.{waiting, push_joins}
use Rattle.machine.proofs.Turn.{bad_none, seen_named, New, Enters}

module _ {R : Type 0} (M : Machine R) where
  -- q comes just after an instruction that was entered.
  abbrev Follows : Log → ℕ → Type 0
  Follows l q = (p : ℕ) × (p ∈ places l) × (M.next p ≡ q)

  abbrev AllNamed : List Item → Type 0
  AllNamed w = (j : Item) → j ∈ w → M.named j.place ≡ true

  -- Unless it is named, the place on top was not entered yet, and comes just after one that was. All places below the top are named.
  abbrev Stack : Log → List Item → Type 0
  Stack l [] = Unit {0}
  Stack l (it ∷ w) = (M.named it.place ≡ false → (¬ (it.place ∈ places l)) × Follows l it.place) × AllNamed w

  pub record Once (w : List Item) (l : Log) : Type 0 where
    pub no_repeats : NoRepeats (places l)
    pub inside : (p : ℕ) → p ∈ places l → InChunk M p
    -- what waits before the end waits at the start of an instruction
    pub coming : (j : Item) → j ∈ w → j.place < M.end → M.start j.place ≡ true
    pub stack : Stack l w
    -- a place that was entered and is not named comes just after one that was
    pub chain : (q : ℕ) → q ∈ places l → M.named q ≡ false → Follows l q

  all_named : (l : Log) (w : List Item) → AllNamed w → Stack l w
  all_named l [] h = tt
  all_named l (it ∷ w) h = ((λ e. absurd (zero≢one (cc (h it (here refl))))), λ j m. h j (there m))

  -- An item before the end is at an instruction of the chunk.
  pub item_inside : {it : Item} {w : List Item} {l : Log} → Once (it ∷ w) l → it.place < M.end → InChunk M it.place
  item_inside {it} o h = record { below = h; starts = o.coming it (here refl) h }

  -- A new item is at an instruction that was not entered before.
  pub new_place : {it : Item} {w : List Item} {b : Book Log}
      → Once (it ∷ w) b.store
      → New M log it b
      → ¬ (it.place ∈ places b.store)
  new_place {it} {w} {b} o n = go (M.named it.place) refl
    where
      go : (t : Bool) → M.named it.place ≡ t → ¬ (it.place ∈ places b.store)
      go true e = lookup_none it.place b.store (sym (seen_named M log b.store e) ∙ n.unseen)
      go false e = (o.stack.0 e).0

  pub once_again : {it : Item} {w : List Item} {l : Log} → Once (it ∷ w) l → Once w l
  once_again {it} {w} {l} o = record {
    no_repeats = o.no_repeats;
    inside = o.inside;
    coming = λ j m. o.coming j (there m);
    stack = all_named l w o.stack.1;
    chain = o.chain;
  }

  pub once_enters : {degree : ℕ → ℕ} {starts : List ℕ}
      → Laws M degree starts
      → {it : Item} {w : List Item} {b : Book Log}
      → Once (it ∷ w) b.store
      → (f : Enters M log it b)
      → Once (waiting M it f.passes w) (it ∷ b.store)
  unfolding fall_to
  once_enters L {it} {w} {b} o f = record {
    no_repeats = (new, o.no_repeats);
    inside = λ q m. inside q (∈-cases m);
    coming = λ j m h. coming j h g.fall m;
    stack = stack g.fall;
    chain = λ q m e. chain q e (∈-cases m);
  }
    where
      g : Passes M it
      g = f.passes

      p : ℕ
      p = it.place

      l : Log
      l = b.store

      here_inside : InChunk M p
      here_inside = item_inside o f.new.below

      new : ¬ (p ∈ places l)
      new = new_place o f.new

      inside : (q : ℕ) → (q ≡ p) ⊎ (q ∈ places l) → InChunk M q
      inside q (inl e) = rw e here_inside
      inside q (inr m) = o.inside q m

      -- a jump comes to an instruction, since it passed its tests, and so does what falls through
      pushed : (j : Item) → j.place < M.end → (j ∈ g.jumps) ⊎ (j ∈ w) → M.start j.place ≡ true
      pushed j h (inl m) = ((L.judged p j.place).0 (bad_none (M.judge p) g.jumps f.judged m)).starts
      pushed j h (inr m) = o.coming j (there m) h

      coming : (j : Item)
          → j.place < M.end
          → (fall : Option Depths)
          → j ∈ fall_to (M.next p) fall (push g.jumps w)
          → M.start j.place ≡ true
      coming j h none m = pushed j h ((push_joins g.jumps w).cases m)
      coming j h (some d) (here e) =
          let q : j.place ≡ M.next p = ap (λ (i : Item). i.place) e in
          rw q (L.next_starts here_inside (rw q at h))
      coming j h (some d) (there m) = pushed j h ((push_joins g.jumps w).cases m)

      -- if the next place is not named and was entered, it was from an instruction that has it next, and that is this one
      new_next : M.named (M.next p) ≡ false → (M.next p ≡ p) ⊎ (M.next p ∈ places l) → ⊥
      new_next e (inl q) = omega (arith, L.next_above here_inside)
      new_next e (inr m) =
          let c = o.chain (M.next p) m e in
          new (rw (next_injective L (o.inside c.0 c.1) here_inside c.2) at c.1)

      named_below : AllNamed (push g.jumps w)
      named_below j m = go ((push_joins g.jumps w).cases m)
        where
          go : (j ∈ g.jumps) ⊎ (j ∈ w) → M.named j.place ≡ true
          go (inl k) = (fair_at L here_inside g).named j k
          go (inr k) = o.stack.1 j k

      stack : (fall : Option Depths) → Stack (it ∷ l) (fall_to (M.next p) fall (push g.jumps w))
      stack none = all_named (it ∷ l) (push g.jumps w) named_below
      stack (some d) = ((λ e. ((λ m. new_next e (∈-cases m)), (p, here refl, refl))), named_below)

      chain : (q : ℕ) → M.named q ≡ false → (q ≡ p) ⊎ (q ∈ places l) → Follows (it ∷ l) q
      chain q e (inl x) = let c = (o.stack.0 (rw x at e)).1 in (c.0, there c.1, c.2 ∙ sym x)
      chain q e (inr m) = let c = o.chain q m e in (c.0, there c.1, c.2)
