-- `list::print_lines` meets its contract: where a line's place is the next one, the listing ends.
use mathlib.Core.List.{List}
use mathlib.Core.Path.{◌≡◌, refl, sym, ◌∙◌}
use Prim.Native.Nat.{ℕ}
use native.Mathlib.Omega.{arith}
use Rattle.code.specs.Width.{width_of}
use Rattle.listing.specs.Listing.{listed_at}
use Rattle.reader.specs.Reading.{place_after}
use Rattle.reader.proofs.Reading.{Moved, stays, moves}
use Rattle.list.proofs.print_lines.Goals as goal

-- another place is further on
moved : (code : List ℕ) (at next : ℕ) → next ≡ place_after (listed_at code at) at → (next ≡ at → ⊥)
    → Moved width_of code at next
moved code at next told d = rw told (moves width_of code at (λ e. d (told ∙ e)))

pub loop-next-init : goal.loop-next-init
loop-next-init g c = (omega arith, refl)

pub returns-then-next-at : goal.returns-then-next-at
returns-then-next-at g c =
    sym (stays width_of c.args.code.now c.loop-next.at (sym c.in_ok-next.ensures ∙ c.if-next-at.true))
    ∙ c.loop-next.invariant.1

pub loop-next-smaller : goal.loop-next-smaller
loop-next-smaller g c =
    let m = moved c.args.code.now c.loop-next.at c.in_ok-next.next c.in_ok-next.ensures c.if-next-at.false in
    omega (arith, m.on, m.within)

pub loop-next-preserved : goal.loop-next-preserved
loop-next-preserved g c =
    let m = moved c.args.code.now c.loop-next.at c.in_ok-next.next c.in_ok-next.ensures c.if-next-at.false in
    (m.within, m.stop ∙ c.loop-next.invariant.1)
