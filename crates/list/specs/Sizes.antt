-- How many bytes an operand of an instruction may take. Document 01, "Tags".
use Rattle.std.specs.Prelude.{◌≡◌, ◌⊎◌, ℕ}

-- an operand takes one, two or four bytes
abbrev pub IsSize : ℕ → Type 0
IsSize n = (n ≡ 1) ⊎ ((n ≡ 2) ⊎ (n ≡ 4))
