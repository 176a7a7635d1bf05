-- What the book counts, in terms of the log; and that nothing is deeper than the number of instructions entered.
use mathlib.Core.Path.{◌≡◌, refl}
use mathlib.Core.List.{List, ◌∷◌}
use mathlib.Core.Logic.{◌⊎◌, inl, inr}
use Prim.Native.Nat.{ℕ, ◌+◌, ◌≤◌, ◌<◌}
use native.Mathlib.Omega.{arith}
use lib.ListN.{length}
use Rattle.machine.specs.Lists.{◌∈◌, here, there, sum_of}
use Rattle.answer.specs.Depths.{Item}
use Rattle.answer.specs.declared.Depths.{Depths}
use Rattle.machine.specs.Walk.{Machine, fall_to, Book, dropped, entered, Log, log}
use Rattle.machine.proofs.Lists.{∈-cases}
use Rattle.machine.proofs.Laws.{InChunk, Passes, Carried, Fair, Laws, fair_at}
use Rattle.machine.proofs.Paths.{edges, edges_are}
use Rattle.machine.proofs.Tables.{places, top, top_more}
use Rattle.machine.proofs.Waiting.{waiting, Joined, waiting_joins}
use Rattle.machine.proofs.Turn.{Enters}

-- No depth is above n.
pub record AtMost (n : ℕ) (d : Depths) : Type 0 where
  pub operands : d.operands ≤ n
  pub iterators : d.iterators ≤ n
  pub handlers : d.handlers ≤ n

module _ {R : Type 0} (M : Machine R) (degree : ℕ → ℕ) where
  pub record Counts (w : List Item) (b : Book Log) : Type 0 where
    pub reached : b.reached ≡ length b.store
    -- what was taken and what waits is the first item, and the edges out of what was entered
    pub taken : b.taken + length w ≡ 1 + sum_of degree (places b.store)
    pub height : b.height ≡ top M b.store
    pub low : b.height ≤ b.reached
    -- what waits is no deeper than the number of instructions entered, and what was entered has fewer operands
    pub shallow : (it : Item) → it ∈ w → AtMost b.reached it.depths
    pub shallower : (it : Item) → it ∈ b.store → it.depths.operands < b.reached

  pub counts_again : {it : Item} {w : List Item} {b : Book Log} → Counts (it ∷ w) b → Counts w (dropped b)
  counts_again c = record {
    reached = c.reached;
    taken = omega (arith, c.taken);
    height = c.height;
    low = c.low;
    shallow = λ j m. c.shallow j (there m);
    shallower = c.shallower;
  }

  pub counts_enters : {starts : List ℕ}
      → Laws M degree starts
      → {it : Item} {w : List Item} {b : Book Log}
      → Counts (it ∷ w) b
      → InChunk M it.place
      → (f : Enters M log it b)
      → Counts (waiting M it f.passes w) (entered log it f.passes.post b)
  unfolding sum_of
  counts_enters L {it} {w} {b} c inside f = record {
    reached = omega (arith, c.reached);
    taken = omega (arith, c.taken, joined.total, degree_is);
    height = omega (arith, top_more M g b.store, c.height);
    low = omega (arith, c.low, here_low, low_after fair.carried);
    shallow = λ j m. shallow j (joined.cases m);
    shallower = λ j m. shallower j (∈-cases m);
  }
    where
      g : Passes M it
      g = f.passes

      fair : Fair M degree it g.post g.fall g.jumps
      fair = fair_at L inside g

      joined : Joined (edges M it) w (waiting M it g w)
      joined = waiting_joins M g w

      here_low : AtMost b.reached it.depths
      here_low = c.shallow it (here refl)

      degree_is : length (edges M it) ≡ degree it.place
      degree_is = rw (edges_are M g) fair.count

      low_after : Carried g.post it.depths (fall_to (M.next it.place) g.fall g.jumps) → g.post ≤ b.reached + 1
      low_after (inl h) = omega (arith, here_low)
      low_after (inr x) = omega (arith, here_low, fair.near x.0 x.1, x.2)

      shallow : (j : Item) → (j ∈ edges M it) ⊎ (j ∈ w) → AtMost (b.reached + 1) j.depths
      shallow j (inl m) = omega (arith, here_low, fair.near j (rw (edges_are M g) at m))
      shallow j (inr m) = omega (arith, c.shallow j (there m))

      shallower : (j : Item) → (j ≡ it) ⊎ (j ∈ b.store) → j.depths.operands < b.reached + 1
      shallower j (inl e) = rw e (omega (arith, here_low))
      shallower j (inr m) = omega (arith, c.shallower j m)
