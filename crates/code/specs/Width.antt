-- How many bytes an instruction takes. Document 01, "Tags": "Numbers run from 0x01 in this order. Every byte not named
-- has width 0", the runs of widths 1 to 7, and IMPORT at 0x4f; "Modules": "Width 0 or operands cut off: no width".
use Rattle.std.specs.Prelude.{cond, List, ℕ, ◌+◌, leb, eqb, length, get_or}

-- the tags run upward from 0x01, and each line has the last tag of its width
unfoldable pub width_of : ℕ → ℕ
width_of tag =
    cond (eqb tag 0x00) 0
    (cond (leb tag 0x14) 1
    (cond (leb tag 0x1a) 2
    (cond (leb tag 0x33) 3
    (cond (leb tag 0x37) 4
    (cond (leb tag 0x41) 5
    (cond (leb tag 0x44) 6
    (cond (leb tag 0x47) 7
    (cond (eqb tag 0x4f) 3 0))))))))

-- the width of the instruction at an offset, by any table of widths: 0 where the code ends before the instruction does.
-- So it is past the code's end too, where a byte reads as 0
unfoldable pub width_by : (table : ℕ → ℕ) → List ℕ → ℕ → ℕ
width_by table code at = cond (leb (at + table (get_or code at 0)) (length code)) (table (get_or code at 0)) 0

-- by document 01's table
abbrev pub width_at : List ℕ → ℕ → ℕ
width_at = width_by width_of
