-- The table of the code, entry by entry: one computed test that each entry is written as its tag's indices, and one
-- that each index lies within its instruction; and what the code keeps are these entries.
use mathlib.Core.Bool.{Bool, true, false, ◌&&◌}
use mathlib.Core.List.{List, [], ◌∷◌, Memᴰ}
use mathlib.Core.Path.{◌≡◌, refl, ap, ◌∙◌}
use Prim.Native.Nat.{ℕ, ◌+◌, ◌<◌, ◌≤◌}
use native.Mathlib.Omega.{arith}
use lib.Dec.{T, eqb, leb, eqb→eq, leb→le}
use lib.ListN.{get_or, replicate}
use Rattle.code.specs.Layout.{Index, indices, layout, among, indices_from}
use Rattle.code.specs.Width.{width_of}
use Rattle.code.proofs.Packed.{entry, packed_at}
use Rattle.code.proofs.Table.{each, left, right}
use Rattle.indices.specs.Fields.{unpacked, index_rows}

abbrev pub table : List ℕ
table =
    0 ∷ 0 ∷ 0 ∷ 0 ∷ 0 ∷ 0 ∷ 0 ∷ 0 ∷ 0 ∷ 0 ∷ 0 ∷ 0 ∷ 0 ∷ 0 ∷ 0 ∷ 0 ∷
    0 ∷ 0 ∷ 0 ∷ 0 ∷ 0 ∷ 0 ∷ 0 ∷ 0 ∷ 0 ∷ 0 ∷ 0 ∷ 0 ∷ 0 ∷ 0 ∷ 0x1200 ∷ 0 ∷
    0x1200 ∷ 0 ∷ 0x1400 ∷ 0x1200 ∷ 0x1100 ∷ 0 ∷ 0x1200 ∷ 0 ∷ 0 ∷ 0x1200 ∷ 0x1200 ∷ 0x1200 ∷ 0x1500 ∷ 0 ∷ 0 ∷ 0 ∷
    0 ∷ 0x1600 ∷ 0x1700 ∷ 0x1200 ∷ 0x1200 ∷ 0x1200 ∷ 0 ∷ 0x2200 ∷ 0 ∷ 0 ∷ 0 ∷ 0 ∷ 0 ∷ 0 ∷ 0x3200 ∷ 0x1232 ∷
    0x3200 ∷ 0x1234 ∷ 0x1243 ∷ 0x1200 ∷ 0x1242 ∷ 0 ∷ 0 ∷ 0x3254 ∷ 0 ∷ 0 ∷ 0 ∷ 0 ∷ 0 ∷ 0 ∷ 0 ∷ 0x1200 ∷
    0 ∷ 0 ∷ 0 ∷ 0 ∷ 0 ∷ 0 ∷ 0 ∷ 0 ∷ 0 ∷ 0 ∷ 0 ∷ 0 ∷ 0 ∷ 0 ∷ 0 ∷ 0 ∷
    0 ∷ 0 ∷ 0 ∷ 0 ∷ 0 ∷ 0 ∷ 0 ∷ 0 ∷ 0 ∷ 0 ∷ 0 ∷ 0 ∷ 0 ∷ 0 ∷ 0 ∷ 0 ∷
    0 ∷ 0 ∷ 0 ∷ 0 ∷ 0 ∷ 0 ∷ 0 ∷ 0 ∷ 0 ∷ 0 ∷ 0 ∷ 0 ∷ 0 ∷ 0 ∷ 0 ∷ 0 ∷
    0 ∷ 0 ∷ 0 ∷ 0 ∷ 0 ∷ 0 ∷ 0 ∷ 0 ∷ 0 ∷ 0 ∷ 0 ∷ 0 ∷ 0 ∷ 0 ∷ 0 ∷ 0 ∷
    0 ∷ 0 ∷ 0 ∷ 0 ∷ 0 ∷ 0 ∷ 0 ∷ 0 ∷ 0 ∷ 0 ∷ 0 ∷ 0 ∷ 0 ∷ 0 ∷ 0 ∷ 0 ∷
    0 ∷ 0 ∷ 0 ∷ 0 ∷ 0 ∷ 0 ∷ 0 ∷ 0 ∷ 0 ∷ 0 ∷ 0 ∷ 0 ∷ 0 ∷ 0 ∷ 0 ∷ 0 ∷
    0 ∷ 0 ∷ 0 ∷ 0 ∷ 0 ∷ 0 ∷ 0 ∷ 0 ∷ 0 ∷ 0 ∷ 0 ∷ 0 ∷ 0 ∷ 0 ∷ 0 ∷ 0 ∷
    0 ∷ 0 ∷ 0 ∷ 0 ∷ 0 ∷ 0 ∷ 0 ∷ 0 ∷ 0 ∷ 0 ∷ 0 ∷ 0 ∷ 0 ∷ 0 ∷ 0 ∷ 0 ∷
    0 ∷ 0 ∷ 0 ∷ 0 ∷ 0 ∷ 0 ∷ 0 ∷ 0 ∷ 0 ∷ 0 ∷ 0 ∷ 0 ∷ 0 ∷ 0 ∷ 0 ∷ 0 ∷
    0 ∷ 0 ∷ 0 ∷ 0 ∷ 0 ∷ 0 ∷ 0 ∷ 0 ∷ 0 ∷ 0 ∷ 0 ∷ 0 ∷ 0 ∷ 0 ∷ 0 ∷ 0 ∷
    0 ∷ 0 ∷ 0 ∷ 0 ∷ 0 ∷ 0 ∷ 0 ∷ 0 ∷ 0 ∷ 0 ∷ 0 ∷ 0 ∷ 0 ∷ 0 ∷ 0 ∷ 0 ∷ []

-- are two lists of indices the same?
abbrev same_index : Index → Index → Bool
same_index i j = eqb i.offset j.offset && eqb i.pool j.pool

abbrev same : List Index → List Index → Bool
same [] [] = true
same [] (j ∷ js) = false
same (i ∷ is) [] = false
same (i ∷ is) (j ∷ js) = same_index i j && same is js

index_is : (i j : Index) → T (same_index i j) → i ≡ j
index_is i j t =
    let o = eqb→eq i.offset j.offset (left (eqb i.offset j.offset) (eqb i.pool j.pool) t) in
    let p = eqb→eq i.pool j.pool (right (eqb i.offset j.offset) (eqb i.pool j.pool) t) in
    ap (λ (n : ℕ). record { offset = n; pool = i.pool }) o ∙ ap (λ (n : ℕ). record { offset = j.offset; pool = n }) p

same_is : (is js : List Index) → T (same is js) → is ≡ js
same_is [] [] t = refl
same_is [] (j ∷ js) t = absurd t
same_is (i ∷ is) [] t = absurd t
same_is (i ∷ is) (j ∷ js) t =
    let head = index_is i j (left (same_index i j) (same is js) t) in
    let rest = same_is is js (right (same_index i j) (same is js) t) in
    cc

is_rule : ℕ → ℕ → Bool
unfolding unpacked layout among indices_from
is_rule tag entry = same (unpacked entry) (indices tag)

-- each entry is its tag's indices
pub rule : (tag : ℕ) → tag < 256 → unpacked (get_or table tag 0) ≡ indices tag
unfolding is_rule
rule tag h = same_is (unpacked (get_or table tag 0)) (indices tag) (each is_rule table tt tag h)

-- what the code keeps of a tag is its entry
pub row_entry : (tag : ℕ) → tag < 256 → entry 4 16 index_rows tag ≡ get_or table tag 0
row_entry tag h = packed_at 4 16 index_rows table tt tag h

-- each index ends within so many bytes
abbrev pub Within : ℕ → List Index → Type 0
Within w is = (i : Index) → Memᴰ i is → i.offset + 2 ≤ w

abbrev are_within : ℕ → List Index → Bool
are_within w [] = true
are_within w (i ∷ is) = leb (i.offset + 2) w && are_within w is

are_within_lem : (w : ℕ) (is : List Index) → T (are_within w is) → Within w is
are_within_lem w [] t i x'' = elim x'' [ ]
are_within_lem w (j ∷ js) t i (Memᴰ.head q) =
    rw q (leb→le (j.offset + 2) w (left (leb (j.offset + 2) w) (are_within w js) t))
are_within_lem w (j ∷ js) t i (Memᴰ.tail m) =
    are_within_lem w js (right (leb (j.offset + 2) w) (are_within w js) t) i m

is_within : ℕ → ℕ → Bool
unfolding width_of layout among indices_from
is_within tag x = are_within (width_of tag) (indices tag)

-- each index of a tag ends within its instruction
pub within : (tag : ℕ) → tag < 256 → Within (width_of tag) (indices tag)
unfolding is_within
within tag h = are_within_lem (width_of tag) (indices tag) (each is_within (replicate 256 0) tt tag h)

-- each index points into a pool that has a number
abbrev pub Known : List Index → Type 0
Known is = (i : Index) → Memᴰ i is → (0 < i.pool) × (i.pool < 8)

abbrev are_known : List Index → Bool
are_known [] = true
are_known (i ∷ is) = (leb 1 i.pool && leb i.pool 7) && are_known is

are_known_lem : (is : List Index) → T (are_known is) → Known is
are_known_lem [] t i x'' = elim x'' [ ]
are_known_lem (j ∷ js) t i (Memᴰ.head q) =
    let both = left (leb 1 j.pool && leb j.pool 7) (are_known js) t in
    let low = leb→le 1 j.pool (left (leb 1 j.pool) (leb j.pool 7) both) in
    let high = leb→le j.pool 7 (right (leb 1 j.pool) (leb j.pool 7) both) in
    rw q (omega arith, omega arith)
are_known_lem (j ∷ js) t i (Memᴰ.tail m) =
    are_known_lem js (right (leb 1 j.pool && leb j.pool 7) (are_known js) t) i m

is_known : ℕ → ℕ → Bool
unfolding layout among indices_from
is_known tag x = are_known (indices tag)

-- each index of a tag does
pub known : (tag : ℕ) → tag < 256 → Known (indices tag)
unfolding is_known
known tag h = are_known_lem (indices tag) (each is_known (replicate 256 0) tt tag h)
