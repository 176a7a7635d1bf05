-- How many bytes a field of an instruction takes. Document 01, "Tags": "Jump targets are u32 at offset 1. A count n is
-- the byte at 1 [...], the byte at 3 (other calls), the u16 at 1 (MAKE_*)". An index and a slot have two bytes.
use Rattle.std.specs.Prelude.{ℕ}
use Rattle.code.specs.Layout.{Field, target, count8, count16, slot, index}

abbrev pub size : Field → ℕ
size target = 4
size count8 = 1
size count16 = 2
size slot = 2
size (index pool) = 2
