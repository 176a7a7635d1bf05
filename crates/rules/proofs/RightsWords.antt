-- The rights in a tag's word: the tests that they have to pass at their tag, and what rights tell that pass them.
use mathlib.Core.Bool.{Bool, true}
use mathlib.Core.List.{List, [], ◌∷◌, Memᴰ}
use mathlib.Core.Path.{◌≡◌, refl}
use Prim.Native.Nat.{ℕ, ◌+◌, ◌/◌, ◌%◌}
use native.Mathlib.Omega.{arith}
use lib.Dec.{T, eqb, leb, ltb, eqb→eq, ltb→lt}
use Rattle.code.proofs.ByTag.{at_each, tags_of, once, row_holds}
use Rattle.code.specs.Tags.{Row, among, byte, bytes, CHAIN}
use Rattle.code.specs.Layout.{tag_at, index_at}
use Rattle.pools.specs.Pools.{chain_at}
use Rattle.rules.specs.Asks.{qualifiable, asking, Asks}
use Rattle.rules.specs.Rights.{Need, fixed, named, chained, rights_by_tag, rights_of_tag, comes_to, of_name, of_chain}
use Rattle.rules.specs.Rights.{required}
use Rattle.rules.proofs.Tests.{same, same→eq, all, pass}

-- how a word says a need
in_word : Need → ℕ
in_word (fixed bits) = bits
in_word (named bits) = 16384 + bits
in_word chained = 32768

-- its bits stay below what else decides
abbrev low : Need → Bool
low (fixed bits) = ltb bits 16384
low (named bits) = ltb bits 16384
low chained = true

need_low : (tag : ℕ) → T (low (rights_of_tag tag))
unfolding rights_of_tag
need_low = at_each low rights_by_tag (fixed 0) tt tt

-- no tag is in two rows of the needs, so that each row holds of its tags
pub need_row : {row : Row Need} → Memᴰ row rights_by_tag → (tag : ℕ) → among tag row.tags ≡ true → rights_of_tag tag ≡ row.says
unfolding rights_of_tag once tags_of
need_row = row_holds rights_by_tag (fixed 0) tt

-- what the word asks for is what the need comes to
asks_need : (name chain : ℕ) (n : Need) → T (low n) → asking (in_word n) name chain ≡ comes_to name chain n
unfolding asking in_word comes_to
asks_need name chain (fixed bits) t =
    let none : bits / 16384 ≡ 0 = omega (arith, ltb→lt bits 16384 t) in
    rw none
asks_need name chain (named bits) t =
    let one : (16384 + bits) / 16384 ≡ 1 = omega (arith, ltb→lt bits 16384 t) in
    let rest : (16384 + bits) % 16384 ≡ bits = omega (arith, ltb→lt bits 16384 t) in
    rw (one, rest)
asks_need name chain chained t = refl

tests : ℕ → ℕ → List Bool
unfolding rights_of_tag in_word
tests tag word =
    same (among tag (bytes qualifiable)) (eqb (word / 16384) 1)
    ∷ same (eqb tag (byte CHAIN)) (leb 2 (word / 16384))
    ∷ same (eqb tag (byte CHAIN)) (eqb word 32768)
    ∷ eqb word (in_word (rights_of_tag tag))
    ∷ []

unfoldable pub rightly : ℕ → ℕ → Bool
unfolding tests
rightly tag word = all (tests tag word)

asked_needed : (tag : ℕ) (code names chains steps : List ℕ) (p : ℕ) → tag_at code p ≡ tag
    → asking (in_word (rights_of_tag tag)) (of_name names (index_at code p)) (of_chain steps (chain_at chains (index_at code p)))
    ≡ required code names chains steps p
unfolding required
asked_needed tag code names chains steps p e =
    let name = of_name names (index_at code p) in
    let chain = of_chain steps (chain_at chains (index_at code p)) in
    rw (← e) (asks_need name chain (rights_of_tag (tag_at code p)) (need_low (tag_at code p)))

pub rights_told : (tag word : ℕ) → T (rightly tag word) → Asks tag word
unfolding rightly
rights_told tag word t = record {
  by_name = same→eq _ _ (pass 0 (tests tag word) t);
  by_chain = same→eq _ _ (pass 1 (tests tag word) t);
  chain_alone = same→eq _ _ (pass 2 (tests tag word) t);
  needed = rw (eqb→eq word (in_word (rights_of_tag tag)) (pass 3 (tests tag word) t)) (asked_needed tag);
}
