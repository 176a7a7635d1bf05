-- The words of the tags: the tests that a word has to pass at its tag, and what a word tells that passes them.
use mathlib.Core.Bool.{Bool, true, false, ◌&&◌, ◌||◌, cond}
use mathlib.Core.List.{List, [], ◌∷◌}
use mathlib.Core.Path.{◌≡◌, refl}
use Prim.Native.Nat.{ℕ, zero, suc, ◌<◌, ◌/◌, ◌%◌, ◌^◌}
use borrow.Author.Tests.{ne_eqb}
use lib.Dec.{T, eqb, leb, ltb, eqb→eq, ltb→lt}
use lib.ListN.{get_or, replicate}
use Rattle.code.proofs.Table.{each}
use Rattle.code.specs.Layout.{layout, among}
use Rattle.code.specs.Tags.{byte, bytes, ITER_INIT, ITER_DROP, POP_HANDLER, SWITCH, IMPORT, iter_nexts, push_handlers}
use Rattle.code.specs.Width.{width_of}
use Rattle.rules.specs.Edges.{jumping, falls, plain}
use Rattle.rules.specs.Effects.{effect}
use Rattle.rules.specs.Needs.{iterators_needed, handlers_needed}
use Rattle.rules.specs.Shapes.{place_from, Shape}
use Rattle.rules.proofs.RightsWords.{rightly, rights_told}
use Rattle.rules.proofs.Tests.{same, same→eq, all, pass}

-- in the order of the fields
tests : ℕ → ℕ → List Bool
unfolding layout among width_of effect place_from falls plain iterators_needed handlers_needed rightly
tests tag word =
    eqb (word % 4) (effect tag).needs.fixed
    ∷ eqb (word / 4 % 4) (effect tag).needs.per_n
    ∷ eqb (word / 16 % 4) (effect tag).pops.fixed
    ∷ eqb (word / 64 % 4) (effect tag).pops.per_n
    ∷ eqb (word / 256 % 16) (effect tag).pushes
    ∷ eqb (word / 4096 % 16) (width_of tag)
    ∷ eqb (word / 65536 % 16) (place_from (layout tag) 1)
    ∷ same (ltb (word / 1048576 % 16) 4) (plain tag)
    ∷ same (ltb (word / 1048576 % 16) 7) (falls tag)
    ∷ same (among tag (bytes jumping)) (leb 4 (word / 1048576 % 16) && leb (word / 1048576 % 16) 7)
    ∷ same (eqb tag (byte SWITCH)) (eqb (word / 1048576 % 16) 8)
    ∷ same (eqb tag (byte ITER_INIT)) (eqb (word / 1048576 % 16) 1)
    ∷ same (eqb tag (byte ITER_DROP)) (eqb (word / 1048576 % 16) 3)
    ∷ same (among tag (bytes iter_nexts)) (eqb (word / 1048576 % 16) 4)
    ∷ same (among tag (bytes push_handlers)) (eqb (word / 1048576 % 16) 5)
    ∷ same (eqb tag (byte POP_HANDLER)) (eqb (word / 1048576 % 16) 2)
    ∷ eqb (iterators_needed tag) (cond (eqb (word / 1048576 % 16) 3) 1 (cond (eqb (word / 1048576 % 16) 4) 1 0))
    ∷ eqb (handlers_needed tag) (cond (eqb (word / 1048576 % 16) 2) 1 0)
    ∷ ltb (word / 1048576 % 16) 10
    ∷ rightly tag (word / 16777216 % 65536)
    ∷ ltb word (2 ^ 40)
    ∷ []

unfoldable pub fits_tag : ℕ → ℕ → Bool
unfolding tests
fits_tag tag word = all (tests tag word)

-- a word that passes says what the definitions say
told : (tag word : ℕ) → T (fits_tag tag word) → Shape tag word
unfolding fits_tag
told tag word t = record {
  needs_fixed = eqb→eq _ _ (passes 0);
  needs_per_n = eqb→eq _ _ (passes 1);
  pops_fixed = eqb→eq _ _ (passes 2);
  pops_per_n = eqb→eq _ _ (passes 3);
  pushes = eqb→eq _ _ (passes 4);
  width = eqb→eq _ _ (passes 5);
  place = eqb→eq _ _ (passes 6);
  flow = record {
    is_plain = same→eq _ _ (passes 7);
    falls_on = same→eq _ _ (passes 8);
    jumps = same→eq _ _ (passes 9);
    switches = same→eq _ _ (passes 10);
    iterates = same→eq _ _ (passes 11);
    drops = same→eq _ _ (passes 12);
    advances = same→eq _ _ (passes 13);
    arms = same→eq _ _ (passes 14);
    disarms = same→eq _ _ (passes 15);
    iterators = eqb→eq _ _ (passes 16);
    handlers = eqb→eq _ _ (passes 17);
    low = ltb→lt _ _ (passes 18);
  };
  rights = rights_told tag (word / 16777216 % 65536) (passes 19);
  no_more = ltb→lt _ _ (passes 20);
}
  where
    passes : (k : ℕ) → T (get_or (tests tag word) k true)
    passes k = pass k (tests tag word) t

-- an arm of the table: the word of this tag passes
pub fits : {tag word : ℕ} (arm : ℕ) → tag ≡ arm → T (fits_tag arm word) → Shape tag word
fits {tag} {word} arm e t = rw e (told arm word t)

-- ---- a byte that is no tag

-- the table's arms, the last one first
abbrev up_to : ℕ → List ℕ
up_to zero = []
up_to (suc n) = suc n ∷ up_to n

abbrev pub arms : List ℕ
arms = byte IMPORT ∷ up_to 71

-- what a match with these arms tells of a number that comes to none of them
abbrev pub NoneOf : ℕ → List ℕ → Type 0
NoneOf tag [] = Unit {0}
NoneOf tag (arm ∷ others) = NoneOf tag others × (tag ≡ arm → ⊥)

not_among : (tag : ℕ) (others : List ℕ) → NoneOf tag others → among tag others ≡ false
unfolding among
not_among tag [] none = refl
not_among tag (arm ∷ others) none = rw (ne_eqb tag arm none.1) (not_among tag others none.0)

-- there 0 passes
untagged : ℕ → ℕ → Bool
unfolding among fits_tag
untagged tag x = among tag arms || fits_tag tag 0

pub fits_none : (tag : ℕ) → tag < 256 → NoneOf tag arms → Shape tag 0
unfolding untagged
fits_none tag h none = told tag 0 (rw (not_among tag arms none) at (each untagged (replicate 256 0) tt tag h))
