-- Text in bytes: quoted text, and numbers in decimal. Document 01, "Modules": the listing is `disassemble`, which
-- people read, so that its numbers are decimal.
use Rattle.std.specs.Prelude.{cond, List, [], ◌∷◌, ◌++◌, ℕ, zero, suc, ◌+◌, ◌/◌, ◌%◌, ltb}
use Prim.Native.Char.{code}
use Prim.Native.String.{String, [] as none, ◌∷◌ as ◌then◌}

-- the letters of a quoted text, each letter of which is one byte
unfoldable pub letters : String → List ℕ
letters none = []
letters (letter then text) = code letter ∷ letters text

abbrev pub space : ℕ
space = 0x20

abbrev pub newline : ℕ
newline = 0x0a

abbrev pub digit : ℕ → ℕ
digit n = 0x30 + n

-- at most so many digits of a number, the last of them last
unfoldable pub decimal_digits : ℕ → ℕ → List ℕ
decimal_digits zero n = []
decimal_digits (suc most) n = cond (ltb n 10) (digit n ∷ []) (decimal_digits most (n / 10) ++ (digit (n % 10) ∷ []))

-- all digits of a number: it has no more than itself and one
unfoldable pub decimal : ℕ → List ℕ
decimal n = decimal_digits (n + 1) n
