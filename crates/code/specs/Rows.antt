-- The numbers that the code keeps of the widths: sixteen tags to a number, a hexadecimal digit each, the lowest tag in
-- the lowest digit. Document 01, "Tags": the runs of widths.
use Rattle.std.specs.Prelude.{List, [], ◌∷◌, ℕ}

abbrev pub width_rows : List ℕ
width_rows = 0x1111111111111110 ∷ 0x3333322222211111 ∷ 0x3333333333333333 ∷ 0x5555555544443333 ∷ 0x3000000077766655 ∷ []
