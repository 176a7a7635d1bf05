-- Words in front and zeros behind: stored behind the front, words are in front; cleared, all are zeros.
use mathlib.Core.Bool.{Bool, true, false, cond}
use mathlib.Core.List.{List, [], ◌∷◌, ◌++◌}
use mathlib.Core.Path.{◌≡◌, refl, ◌∙◌}
use Prim.Native.Nat.{ℕ, zero, suc, ◌+◌, ◌-◌, ◌≤◌}
use native.Mathlib.Omega.{arith}
use borrow.Author.Tests.{leb-true}
use lib.Dec.{leb}
use lib.ListN.{length, drop, replicate, length-append, length-replicate, replicate-append-replicate}
use lib.Seq.{sets, sets-eq, take-append_seam, drop-append_seam, drop-append-add}
use Rattle.opening.specs.Listing.{room_for, fronted, opening}

pub drop_zeros : (n m : ℕ) → drop {A = ℕ} n (replicate m 0) ≡ replicate (m - n) 0
drop_zeros zero m = let same : m - 0 ≡ m = omega arith in rw same refl
drop_zeros (suc n) zero = let same : 0 - suc n ≡ 0 = omega arith in rw same refl
drop_zeros (suc n) (suc m) = let same : suc m - suc n ≡ m - n = omega arith in rw same (drop_zeros n m)

pub length_fronted : (words : ℕ) (front : List ℕ) → length front ≤ words → length (fronted words front) ≡ words
unfolding fronted
length_fronted words front h =
    omega (arith, length-append front (replicate (words - length front) 0), length-replicate {A = ℕ} (words - length front) 0)

pub length_opening : (words entry : ℕ) → length (opening words entry) ≤ words
unfolding opening
length_opening words entry = go (leb 1 words) refl
  where
    go : (b : Bool) → leb 1 words ≡ b → length (cond b (entry ∷ []) []) ≤ words
    go true e = leb-true 1 words e
    go false e = omega arith

-- stored behind the front, words are in front
sets_behind : (words : ℕ) (front ts : List ℕ) → length front + length ts ≤ words
    → sets (fronted words front) (length front) ts ≡ fronted words (front ++ ts)
unfolding fronted
sets_behind words front ts h =
    sets-eq ts (front ++ zeros) (length front) (omega (arith, length-append front zeros, length-replicate {A = ℕ} (words - length front) 0))
    ∙ rw (take-append_seam front zeros, drop-append-add front zeros (length ts), drop_zeros (length ts) (words - length front), fewer) refl
  where
    zeros : List ℕ
    zeros = replicate (words - length front) 0

    fewer : words - length front - length ts ≡ words - length (front ++ ts)
    fewer = omega (arith, length-append front ts)

module _ (words : ℕ) (front ts : List ℕ) where
  -- the front after one instruction more
  abbrev pub behind : List ℕ
  behind = cond (room_for (length front) (length ts) words) (front ++ ts) front

  pub behind_length : length behind ≡ cond (room_for (length front) (length ts) words) (length front + length ts) (length front)
  behind_length = go (room_for (length front) (length ts) words)
    where
      go : (b : Bool) → length (cond b (front ++ ts) front) ≡ cond b (length front + length ts) (length front)
      go true = length-append front ts
      go false = refl

  pub behind_fits : length front ≤ words → length behind ≤ words
  behind_fits h = go (room_for (length front) (length ts) words) refl
    where
      go : (b : Bool) → room_for (length front) (length ts) words ≡ b → length (cond b (front ++ ts) front) ≤ words
      go true e = omega (arith, leb-true (length front + length ts) words e, length-append front ts)
      go false e = h

  pub behind_words : cond (room_for (length front) (length ts) words) (sets (fronted words front) (length front) ts) (fronted words front) ≡ fronted words behind
  behind_words = go (room_for (length front) (length ts) words) refl
    where
      go : (b : Bool) → room_for (length front) (length ts) words ≡ b
          → cond b (sets (fronted words front) (length front) ts) (fronted words front) ≡ fronted words (cond b (front ++ ts) front)
      go true e = sets_behind words front ts (leb-true (length front + length ts) words e)
      go false e = refl

-- the front set to zeros again
pub cleared : (words : ℕ) (front : List ℕ) → length front ≤ words
    → replicate (length front) 0 ++ drop (length front) (fronted words front) ≡ replicate words 0
unfolding fronted
cleared words front h =
    let all : length front + (words - length front) ≡ words = omega arith in
    rw (drop-append_seam front (replicate (words - length front) 0), replicate-append-replicate, all) refl
