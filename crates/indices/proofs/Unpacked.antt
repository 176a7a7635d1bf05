-- The indices among an instruction's bytes, as code finds them by its tag's entry of the table: none, or one, or a
-- second where the first is fine.
use mathlib.Core.Bool.{cond}
use mathlib.Core.List.{List, [], ◌∷◌, ◌++◌, map, Memᴰ}
use mathlib.Core.Path.{◌≡◌, refl, ap, ◌∙◌}
use Prim.Native.Nat.{ℕ, ◌+◌, ◌/◌, ◌%◌, ◌<◌, ◌≤◌}
use native.Mathlib.Omega.{arith}
use borrow.Author.Tests.{ne_eqb}
use lib.Dec.{eqb}
use lib.ListN.{length}
use Rattle.code.specs.Layout.{Index, indices, tag_at}
use Rattle.code.specs.Width.{width_of, width_at}
use Rattle.code.proofs.Widths.{Wide, width_there}
use Rattle.indices.specs.Fields.{index_digits, unpacked}
use Rattle.std.specs.Prelude.{Result, Ok, Err}
use Rattle.std.specs.Result.{IsErr, IsErrAnd}
use Rattle.pools.specs.Told.{fine}
use Rattle.indices.specs.Indices.{Ref, ref_at, in_code, first_bad_ref}
use Rattle.indices.specs.Checks.{checked_told}
use Rattle.indices.specs.declared.BadIndex.{BadIndex}
use Rattle.indices.specs.declared.Pool.{Pool}
use Rattle.indices.proofs.Laws.{goes_on, stops}
use Rattle.indices.proofs.Table.{Within, within, Known, known}

-- the second index of an entry, if there is one
abbrev second : ℕ → List Index
second e = cond (eqb (e % 256) 0) [] (index_digits (e % 256) ∷ [])

module _ (code : List ℕ) (at e : ℕ) (is : unpacked e ≡ indices (tag_at code at)) where
  -- the first index as a reference, and the second, if there is one
  abbrev head : List Ref
  head = ref_at code at (index_digits (e / 256)) ∷ []

  abbrev tail : List Ref
  tail = map (ref_at code at) (second e)

  all : map (ref_at code at) (unpacked e) ≡ in_code code at
  unfolding in_code
  all = ap (map (ref_at code at)) is

  -- ---- where they stand

  module _ (there : 0 < width_at code at) (byte : tag_at code at < 256) (some : e ≡ 0 → ⊥) where
    fit : Within (width_of (tag_at code at)) (index_digits (e / 256) ∷ second e)
    unfolding unpacked
    fit = rw (← is, ne_eqb e 0 some) at (within (tag_at code at) byte)

    wide : Wide width_of code at (width_at code at)
    wide = width_there width_of code at there

    ends : (i : Index) → Memᴰ i (index_digits (e / 256) ∷ second e) → at + i.offset + 2 ≤ length code
    ends i m = omega (arith, fit i m, wide.tag, wide.within)

    pools : Known (index_digits (e / 256) ∷ second e)
    unfolding unpacked
    pools = rw (← is, ne_eqb e 0 some) at (known (tag_at code at) byte)

    -- the first names a pool
    pub first_known : (0 < e / 256 % 16) × (e / 256 % 16 < 8)
    first_known = pools (index_digits (e / 256)) (Memᴰ.head refl)

    -- and so does a second
    pub second_known : (e % 256 ≡ 0 → ⊥) → (0 < e % 256 % 16) × (e % 256 % 16 < 8)
    second_known more = pools (index_digits (e % 256)) (rw (ne_eqb (e % 256) 0 more) (Memᴰ.tail (Memᴰ.head refl)))

    -- the first ends within the code
    pub first_within : at + e / 256 / 16 + 2 ≤ length code
    first_within = ends (index_digits (e / 256)) (Memᴰ.head refl)

    -- and so does a second
    pub second_within : (e % 256 ≡ 0 → ⊥) → at + e % 256 / 16 + 2 ≤ length code
    second_within more = ends (index_digits (e % 256)) (rw (ne_eqb (e % 256) 0 more) (Memᴰ.tail (Memᴰ.head refl)))

  -- ---- what is found

  module _ (size : ℕ → ℕ) where
    -- an entry of 0 has no index
    pub none : e ≡ 0 → fine ≡ first_bad_ref size (in_code code at)
    unfolding unpacked first_bad_ref
    none z = ap (first_bad_ref size) (rw z at all)

    both : (e ≡ 0 → ⊥) → first_bad_ref size (head ++ tail) ≡ first_bad_ref size (in_code code at)
    unfolding unpacked
    both some = ap (first_bad_ref size) (rw (ne_eqb e 0 some) at all)

    module _ (some : e ≡ 0 → ⊥) where
      pub first_bad : (bad : BadIndex Pool) (r : Result Unit (BadIndex Pool))
          → checked_told (Err bad) ≡ first_bad_ref size head → IsErr r × IsErrAnd r (λ a. a ≡ bad)
          → checked_told r ≡ first_bad_ref size (in_code code at)
      first_bad bad r found same = stops size tail head bad r found same ∙ both some

      module _ (x : Unit) (found : checked_told (Ok x) ≡ first_bad_ref size head) where
        rest : first_bad_ref size tail ≡ first_bad_ref size (in_code code at)
        rest = goes_on size tail head x found refl ∙ both some

        pub no_second : e % 256 ≡ 0 → fine ≡ first_bad_ref size (in_code code at)
        unfolding first_bad_ref
        no_second z = rw z at rest

        pub a_second : (e % 256 ≡ 0 → ⊥)
            → first_bad_ref size (ref_at code at (index_digits (e % 256)) ∷ []) ≡ first_bad_ref size (in_code code at)
        a_second more = rw (ne_eqb (e % 256) 0 more) at rest
