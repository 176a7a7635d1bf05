-- How the code's table writes the indices of a tag: a number of four hexadecimal digits, offset and pool of the first,
-- then offset and pool of the second; 0 where there is no index, and 00 at the end where there is no second.
use Rattle.std.specs.Prelude.{cond, List, [], ◌∷◌, ℕ, ◌/◌, ◌%◌, eqb}
use Rattle.code.specs.Layout.{Index}

-- two digits
abbrev pub index_digits : ℕ → Index
index_digits n = record { offset = n / 16; pool = n % 16 }

unfoldable pub unpacked : ℕ → List Index
unpacked n = cond (eqb n 0) [] (index_digits (n / 256) ∷ cond (eqb (n % 256) 0) [] (index_digits (n % 256) ∷ []))

-- what the code keeps of all tags: four to a number, 16 bits each, the lowest tag lowest
abbrev pub index_rows : List ℕ
index_rows =
    0x0000000000000000 ∷ 0x0000000000000000 ∷ 0x0000000000000000 ∷ 0x0000000000000000 ∷ 0x0000000000000000 ∷
    0x0000000000000000 ∷ 0x0000000000000000 ∷ 0x0000120000000000 ∷ 0x1200140000001200 ∷ 0x0000120000001100 ∷
    0x1200120012000000 ∷ 0x0000000000001500 ∷ 0x1200170016000000 ∷ 0x2200000012001200 ∷ 0x0000000000000000 ∷
    0x1232320000000000 ∷ 0x1200124312343200 ∷ 0x3254000000001242 ∷ 0x0000000000000000 ∷ 0x1200000000000000 ∷ []
