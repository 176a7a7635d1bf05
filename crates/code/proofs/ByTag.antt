-- Tables by tag. What passes in every row passes at every tag. Where no tag is in two rows, each row holds of each of
-- its tags, whichever rows stand above it: so a row can be read alone.
use mathlib.Core.Bool.{Bool, true, false, not, ◌&&◌, ◌||◌, cond}
use mathlib.Core.List.{List, [], ◌∷◌, ◌++◌, Memᴰ}
use mathlib.Core.Path.{◌≡◌, refl, sym, ap, ◌∙◌}
use Prim.Native.Nat.{ℕ}
use borrow.Author.Tests.{eqb-true}
use lib.Dec.{T, eqb, ltb}
use Rattle.code.specs.Tags.{Row, among, look_up}
use Rattle.code.specs.Width.{width_of}
use Rattle.code.proofs.Among.{false_is, or_true}
use Rattle.code.proofs.Table.{left, right}

-- ---- a test of every row

module _ {A : Type 0} (test : A → Bool) where
  abbrev pub in_rows : List (Row A) → Bool
  in_rows [] = true
  in_rows (row ∷ rows) = test row.says && in_rows rows

  pub at_each : (rows : List (Row A)) (others : A) → T (in_rows rows) → T (test others) → (tag : ℕ)
      → T (test (look_up rows others tag))
  unfolding look_up
  at_each [] others t o tag = o
  at_each (row ∷ rows) others t o tag =
      go (among tag row.tags) (at_each rows others (right (test row.says) (in_rows rows) t) o tag)
    where
      go : (b : Bool) → T (test (look_up rows others tag)) → T (test (cond b row.says (look_up rows others tag)))
      go true rest = left (test row.says) (in_rows rows) t
      go false rest = rest

-- ---- each row of its tags

-- all tags of a table, row after row
unfoldable pub tags_of : {A : Type 0} → List (Row A) → List ℕ
tags_of [] = []
tags_of (row ∷ rows) = row.tags ++ tags_of rows

-- each has a width, and none stands twice
unfoldable pub once : List ℕ → Bool
unfolding width_of among
once [] = true
once (t ∷ ts) = ltb 0 (width_of t) && (not (among t ts) && once ts)

-- the first is none of the rest, and among these none stands twice
first : (t : ℕ) (ts : List ℕ) → T (once (t ∷ ts)) → T (not (among t ts))
unfolding once
first t ts h = left (not (among t ts)) (once ts) (right (ltb 0 (width_of t)) (not (among t ts) && once ts) h)

second : (t : ℕ) (ts : List ℕ) → T (once (t ∷ ts)) → T (once ts)
unfolding once
second t ts h = right (not (among t ts)) (once ts) (right (ltb 0 (width_of t)) (not (among t ts) && once ts) h)

module _ (tag : ℕ) where
  among_first : (xs ys : List ℕ) → among tag xs ≡ true → among tag (xs ++ ys) ≡ true
  unfolding among
  among_first [] ys e = false_is e
  among_first (x ∷ xs) ys e = go (eqb tag x) e (among_first xs ys)
    where
      go : (b : Bool) → b || among tag xs ≡ true → (among tag xs ≡ true → among tag (xs ++ ys) ≡ true)
          → b || among tag (xs ++ ys) ≡ true
      go true e rest = refl
      go false e rest = rest e

  among_second : (xs ys : List ℕ) → among tag ys ≡ true → among tag (xs ++ ys) ≡ true
  unfolding among
  among_second [] ys e = e
  among_second (x ∷ xs) ys e = rw (among_second xs ys e) (or_true (eqb tag x))

  -- a tag of a row is a tag of its table
  in_table : {A : Type 0} {row : Row A} (rows : List (Row A)) → Memᴰ row rows → among tag row.tags ≡ true
      → among tag (tags_of rows) ≡ true
  unfolding tags_of
  in_table {A = A} {row = row} [] x'' e = elim x'' [ ]
  in_table (top ∷ rows) (Memᴰ.head q) e =
      among_first top.tags (tags_of rows) (sym (ap (λ r. among tag r.tags) q) ∙ e)
  in_table (top ∷ rows) (Memᴰ.tail m) e = among_second top.tags (tags_of rows) (in_table rows m e)

  -- where no tag stands twice, one of the second is none of the first
  apart : (xs ys : List ℕ) → T (once (xs ++ ys)) → among tag ys ≡ true → among tag xs ≡ false
  unfolding once
  apart [] ys t e = refl
  apart (x ∷ xs) ys t e = go (eqb tag x) refl (apart xs ys (second x (xs ++ ys) t) e)
    where
      go : (b : Bool) → eqb tag x ≡ b → among tag xs ≡ false → b || among tag xs ≡ false
      go true q rest = absurd (rw (← eqb-true tag x q, among_second xs ys e) at (first x (xs ++ ys) t))
      go false q rest = rest

once_second : (xs ys : List ℕ) → T (once (xs ++ ys)) → T (once ys)
once_second [] ys t = t
once_second (x ∷ xs) ys t = once_second xs ys (second x (xs ++ ys) t)

pub row_holds : {A : Type 0} (rows : List (Row A)) (others : A) → T (once (tags_of rows))
    → {row : Row A} → Memᴰ row rows → (tag : ℕ) → among tag row.tags ≡ true → look_up rows others tag ≡ row.says
unfolding look_up tags_of
row_holds {A = A} [] others t {row = row} x3 tag e = elim x3 [ ]
row_holds (top ∷ rows) others t (Memᴰ.head q) tag e =
    rw (sym (ap (λ r. among tag r.tags) q) ∙ e) (sym (ap (λ r. r.says) q))
row_holds (top ∷ rows) others t (Memᴰ.tail m) tag e =
    rw (apart tag top.tags (tags_of rows) t (in_table tag rows m e))
    (row_holds rows others (once_second top.tags (tags_of rows) t) m tag e)
