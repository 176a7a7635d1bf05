-- The invariant of the loop of `list::operands::put_operands`: the operands that are left, behind what is put, are
-- those of the tag behind what stood there.
use mathlib.Core.List.{◌++◌}
use mathlib.Core.Path.{◌≡◌}
use Prim.Native.Nat.{◌+◌, ◌*◌, ◌≤◌}
use lib.ListN.{length, drop}
use Rattle.arrayvec.specs.ArrayString.{array_string_len}
use Rattle.list.proofs.Sized.{taken, shown}
use Rattle.list.proofs.operands.put_operands.Given as goal

abbrev pub invariant-loop-size : goal.invariant-loop-size
invariant-loop-size l = record {
  within : l.at + taken (drop l.size-index l.size-items) ≤ length l.code;
  short : array_string_len l.line ≤ array_string_len l.fn.line + 21 * l.size-index;
  written : l.line.bytes ++ shown (drop l.size-index l.size-items) l.code l.at
      ≡ l.fn.line.bytes ++ shown l.size-items l.code l.from;
}
