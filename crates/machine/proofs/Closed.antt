-- What waits and what was entered is on paths, and holds the edges of all that was entered.
use mathlib.Core.Path.{◌≡◌, refl, sym, ◌∙◌}
use mathlib.Core.Bool.{Bool, true, false}
use mathlib.Core.List.{List, ◌∷◌}
use mathlib.Core.Logic.{◌⊎◌, inl, inr}
use mathlib.Core.Option.{some}
use Rattle.machine.specs.Lists.{◌∈◌, here, there}
use Rattle.answer.specs.Depths.{Item}
use Rattle.machine.specs.Walk.{Machine, origin, Book, seen, Log, log}
use Rattle.answer.proofs.Apart.{zero≢one}
use Rattle.machine.proofs.Lists.{∈-cases}
use Rattle.machine.proofs.Laws.{InChunk, Passes}
use Rattle.machine.proofs.Paths.{edges, Reached, follows}
use Rattle.machine.proofs.Tables.{lookup_some}
use Rattle.machine.proofs.Waiting.{waiting, Joined, waiting_joins}
use Rattle.machine.proofs.Turn.{seen_named, seen_other, Again, Enters}

module _ {R : Type 0} (M : Machine R) where
  -- It waits, or it was entered.
  abbrev Known : List Item → Log → Item → Type 0
  Known w l it = (it ∈ w) ⊎ (it ∈ l)

  pub record Closed (w : List Item) (l : Log) : Type 0 where
    pub begun : Known w l (origin M)
    pub passes : {it : Item} → it ∈ l → Passes M it
    pub closed : {it e : Item} → it ∈ l → e ∈ edges M it → Known w l e
    pub on_path : {it : Item} → Known w l it → Reached M it

  -- What was seen was entered.
  pub seen_entered : (it : Item) (l : Log) → seen M log it.place l ≡ some it.depths → it ∈ l
  seen_entered it l e = go (M.named it.place) refl
    where
      go : (t : Bool) → M.named it.place ≡ t → it ∈ l
      go true n = lookup_some it l (sym (seen_named M log l n) ∙ e)
      go false n = absurd (zero≢one (cc (seen_other M log l n)))

  pub closed_again : {it : Item} {w : List Item} {b : Book Log}
      → Closed (it ∷ w) b.store
      → Again M log it b
      → Closed w b.store
  closed_again {it} {w} {b} c a = record {
    begun = shift c.begun;
    passes = c.passes;
    closed = λ m k. shift (c.closed m k);
    on_path = λ k. c.on_path (back k);
  }
    where
      shift : {e : Item} → Known (it ∷ w) b.store e → Known w b.store e
      shift (inl (here q)) = inr (rw q (seen_entered it b.store a.found))
      shift (inl (there m)) = inl m
      shift (inr m) = inr m

      back : {e : Item} → Known w b.store e → Known (it ∷ w) b.store e
      back (inl m) = inl (there m)
      back (inr m) = inr m

  pub closed_enters : {it : Item} {w : List Item} {b : Book Log}
      → Closed (it ∷ w) b.store
      → InChunk M it.place
      → (f : Enters M log it b)
      → Closed (waiting M it f.passes w) (it ∷ b.store)
  closed_enters {it} {w} {b} c inside f = record {
    begun = shift c.begun;
    passes = λ m. passes (∈-cases m);
    closed = λ m k. closed (∈-cases m) k;
    on_path = on_path;
  }
    where
      l : Log
      l = b.store

      w' : List Item
      w' = waiting M it f.passes w

      joined : Joined (edges M it) w w'
      joined = waiting_joins M f.passes w

      here_path : Reached M it
      here_path = c.on_path (inl (here refl))

      shift : {e : Item} → Known (it ∷ w) l e → Known w' (it ∷ l) e
      shift (inl (here q)) = inr (here q)
      shift (inl (there m)) = inl (joined.right m)
      shift (inr m) = inr (there m)

      passes : {x : Item} → (x ≡ it) ⊎ (x ∈ l) → Passes M x
      passes (inl q) = rw q f.passes
      passes (inr m) = c.passes m

      closed : {x e : Item} → (x ≡ it) ⊎ (x ∈ l) → e ∈ edges M x → Known w' (it ∷ l) e
      closed (inl q) k = inl (joined.left (rw q at k))
      closed (inr m) k = shift (c.closed m k)

      new_path : {x : Item} → (x ∈ edges M it) ⊎ (x ∈ w) → Reached M x
      new_path (inl m) = follows here_path inside m
      new_path (inr m) = c.on_path (inl (there m))

      on_path : {x : Item} → Known w' (it ∷ l) x → Reached M x
      on_path (inl m) = new_path (joined.cases m)
      on_path (inr (here q)) = rw q here_path
      on_path (inr (there m)) = c.on_path (inr m)
