-- Several tests as one: where all of a list of tests pass, each does; where they pass at every tag, they do at each. Two truth
-- values that test as the same are the same.
use mathlib.Core.Bool.{Bool, true, false, ◌&&◌}
use mathlib.Core.List.{List, [], ◌∷◌}
use mathlib.Core.Path.{◌≡◌, refl}
use Prim.Native.Nat.{ℕ, zero, suc, ◌<◌}
use lib.Dec.{T}
use lib.ListN.{get_or, replicate}
use Rattle.code.proofs.Table.{every, each, left, right}

abbrev pub same : Bool → Bool → Bool
same true true = true
same true false = false
same false true = false
same false false = true

pub same→eq : (a b : Bool) → T (same a b) → a ≡ b
same→eq true true t = refl
same→eq true false t = absurd t
same→eq false true t = absurd t
same→eq false false t = refl

abbrev pub all : List Bool → Bool
all [] = true
all (b ∷ bs) = b && all bs

-- the test of this number; past the last there is nothing to pass
pub pass : (k : ℕ) (bs : List Bool) → T (all bs) → T (get_or bs k true)
pass k [] t = tt
pass zero (b ∷ bs) t = left b (all bs) t
pass (suc k) (b ∷ bs) t = pass k bs (right b (all bs) t)

-- the tests of each tag, with no table beside them
pub pass_at : (tests : ℕ → List Bool) → T (every (λ tag x. all (tests tag)) 0 (replicate 256 0)) → (tag : ℕ) → tag < 256
    → (k : ℕ) → T (get_or (tests tag) k true)
pass_at tests t tag h k = pass k (tests tag) (each (λ tag x. all (tests tag)) (replicate 256 0) t tag h)
