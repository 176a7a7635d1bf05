-- What stands at an offset, by any table of widths: the four cases, and what each case tells.
use mathlib.Core.Bool.{Bool, true, false, cond}
use mathlib.Core.List.{List}
use mathlib.Core.Path.{◌≡◌, refl, sym, ap, ◌∙◌}
use Prim.Native.Nat.{ℕ, ◌+◌, ◌≤◌, ◌<◌}
use native.Mathlib.Omega.{arith}
use borrow.Author.Tests.{leb-true, leb-false, eqb-true, eqb-false}
use lib.Dec.{leb, eqb}
use lib.ListN.{length, get_or}
use Rattle.std.specs.Prelude.{Result, Ok, Err, ◌≢◌}
use Rattle.code.specs.Answers.{found_by}
use Rattle.code.specs.Width.{width_by}
use Rattle.code.specs.declared.NoWidth.{NoWidth}
use Rattle.code.specs.declared.NoWidth.TheVariants.{NoByte, UnknownTag, CutOff}

-- the width that an answer has, 0 where it has none
abbrev pub width_in : Result ℕ NoWidth → ℕ
width_in (Ok w) = w
width_in (Err why) = 0

width_or_none : {w : ℕ} {why : NoWidth} → Ok w ≡ Err why → ⊥
width_or_none e = cc

module _ (table : ℕ → ℕ) (code : List ℕ) (at : ℕ) where
  -- an instruction of w bytes stands at the offset
  pub record Wide (w : ℕ) : Type 0 where
    pub byte : at < length code
    pub tag : w ≡ table (get_or code at 0)
    pub some : 0 < w
    pub within : at + w ≤ length code

  pub data Stands (t : Result ℕ NoWidth) : Type 0 where
    past : length code ≤ at → t ≡ Err NoByte → Stands t
    unknown : at < length code → table (get_or code at 0) ≡ 0 → t ≡ Err UnknownTag → Stands t
    whole : Wide (table (get_or code at 0)) → t ≡ Ok (table (get_or code at 0)) → Stands t
    cut : at < length code → 0 < table (get_or code at 0) → length code < at + table (get_or code at 0) → t ≡ Err CutOff
        → Stands t

  pub stands : Stands (found_by table code at)
  unfolding found_by
  stands = go (leb (length code) at) refl (eqb size 0) refl (leb (at + size) (length code)) refl
    where
      size : ℕ
      size = table (get_or code at 0)

      go : (a : Bool) → leb (length code) at ≡ a → (b : Bool) → eqb size 0 ≡ b → (d : Bool)
          → leb (at + size) (length code) ≡ d
          → Stands (cond a (Err NoByte) (cond b (Err UnknownTag) (cond d (Ok size) (Err CutOff))))
      go true p b q d r = past (leb-true (length code) at p) refl
      go false p true q d r = unknown (leb-false (length code) at p) (eqb-true size 0 q) refl
      go false p false q true r =
          let n = eqb-false size 0 q in
          let past = leb-false (length code) at p in
          let within = leb-true (at + size) (length code) r in
          whole (record { byte = past; tag = refl; some = omega arith; within = within }) refl
      go false p false q false r =
          let n = eqb-false size 0 q in
          cut (leb-false (length code) at p) (omega arith) (leb-false (at + size) (length code) r) refl

  -- the width there is the value that is told
  pub told_width : {t : Result ℕ NoWidth} → t ≡ found_by table code at → width_by table code at ≡ width_in t
  unfolding found_by width_by
  told_width e =
      sym
      (ap width_in e ∙
      go (leb (length code) at) refl (eqb size 0) refl (leb (at + size) (length code)) refl)
    where
      size : ℕ
      size = table (get_or code at 0)

      go : (a : Bool) → leb (length code) at ≡ a → (b : Bool) → eqb size 0 ≡ b
          → (d : Bool) → leb (at + size) (length code) ≡ d
          → width_in (cond a (Err NoByte) (cond b (Err UnknownTag) (cond d (Ok size) (Err CutOff)))) ≡ cond d size 0
      go true p b q true r =
          let past = leb-true (length code) at p in
          let within = leb-true (at + size) (length code) r in
          omega arith
      go true p b q false r = refl
      go false p true q true r = sym (eqb-true size 0 q)
      go false p true q false r = refl
      go false p false q true r = refl
      go false p false q false r = refl

  -- a width that is told is there
  pub wide : (w : ℕ) → Ok w ≡ found_by table code at → Wide w
  wide w e = go stands
    where
      go : Stands (found_by table code at) → Wide w
      go (past h q) = absurd (width_or_none (e ∙ q))
      go (unknown h z q) = absurd (width_or_none (e ∙ q))
      go (whole v q) =
          let same : w ≡ table (get_or code at 0) = ap width_in (e ∙ q) in
          rw same v
      go (cut h p l q) = absurd (width_or_none (e ∙ q))

  -- and the width at the offset is it
  pub width_there : 0 < width_by table code at → Wide (width_by table code at)
  width_there h = go stands
    where
      go : Stands (found_by table code at) → Wide (width_by table code at)
      go (past p q) = absurd (omega (arith, told_width (sym q)))
      go (unknown p z q) = absurd (omega (arith, told_width (sym q)))
      go (whole v q) = rw (told_width (sym q)) v
      go (cut p s l q) = absurd (omega (arith, told_width (sym q)))

  -- no byte is told exactly past the end
  pub told_past : Err NoByte ≡ found_by table code at → length code ≤ at
  told_past e = go stands
    where
      go : Stands (found_by table code at) → length code ≤ at
      go (past h q) = h
      go (unknown h z q) = absurd (let d : Err NoByte ≡ _ = e ∙ q in cc)
      go (whole v q) = absurd (width_or_none (sym (e ∙ q)))
      go (cut h p l q) = absurd (let d : Err NoByte ≡ _ = e ∙ q in cc)

  -- any other reason is told of a byte that is there
  pub told_byte : (why : NoWidth) → why ≢ NoByte → Err why ≡ found_by table code at → at < length code
  told_byte why other e = go stands
    where
      go : Stands (found_by table code at) → at < length code
      go (past h q) = absurd (other cc)
      go (unknown h z q) = h
      go (whole v q) = absurd (width_or_none (sym (e ∙ q)))
      go (cut h p s q) = h
