-- What the part of a tag's word that is about rights says: the rights that it needs whatever its operands are, and
-- above them, from 16384 on, what else decides: 0 nothing, 1 the flag of a name, 2 a chain.
use Rattle.std.specs.Prelude.{cond, List, [], ◌∷◌, ◌≡◌, ℕ, ◌/◌, ◌%◌, eqb, leb}
use Rattle.std.specs.Int.Bits.{bit_or}
use Rattle.code.specs.Layout.{among, tag_at, index_at}
use Rattle.code.specs.Tags.{Tag, byte, bytes}
use Rattle.code.specs.Tags.{LOAD_NAMED, CHAIN, CALL, CALL_THIS_REF, CALL_OP, CALL_LOCAL_REF, CALL_NAMED_REF}
use Rattle.pools.specs.Pools.{chain_at}
use Rattle.rules.specs.Rights.{of_name, of_chain, required}

-- the tags whose rights go by the flag of a name
abbrev pub qualifiable : List Tag
qualifiable = LOAD_NAMED ∷ CALL ∷ CALL_OP ∷ CALL_LOCAL_REF ∷ CALL_NAMED_REF ∷ CALL_THIS_REF ∷ []

-- what a word asks for, where the name and the chain ask for these
unfoldable pub asking : (word name chain : ℕ) → ℕ
asking word name chain =
    cond (eqb (word / 16384) 0) word
    (cond (eqb (word / 16384) 1) (bit_or (word % 16384) name)
    chain)

pub record Asks (tag word : ℕ) : Type 0 where
  pub by_name : among tag (bytes qualifiable) ≡ eqb (word / 16384) 1
  pub by_chain : eqb tag (byte CHAIN) ≡ leb 2 (word / 16384)
  pub chain_alone : eqb tag (byte CHAIN) ≡ eqb word 32768
  pub needed : (code names chains steps : List ℕ) (p : ℕ) → tag_at code p ≡ tag
      → asking word (of_name names (index_at code p)) (of_chain steps (chain_at chains (index_at code p)))
      ≡ required code names chains steps p
