-- The invariant of the loop of `list::print_lines`: the listing from here on ends where it ends from the start.
use mathlib.Core.Path.{◌≡◌}
use Prim.Native.Nat.{◌-◌, ◌≤◌}
use lib.ListN.{length}
use Rattle.code.specs.Width.{width_of}
use Rattle.listing.specs.Listing.{stop_by}
use Rattle.list.proofs.print_lines.Given as goal

abbrev pub invariant-loop-next : goal.invariant-loop-next
invariant-loop-next g l = (l.at ≤ length l.code) × (stop_by width_of l.code l.at ≡ stop_by width_of l.code 0)

abbrev pub decreases-loop-next : goal.decreases-loop-next
decreases-loop-next g l = length l.code - l.at
