-- One outcome for each input: two answers that tell the same numbers are the same answer.
use mathlib.Core.Bool.{cond}
use mathlib.Core.Path.{◌≡◌, refl, sym, ap, ◌∙◌}
use Prim.Native.Nat.{ℕ}
use lib.Dec.{eqb}
use Rattle.std.specs.Prelude.{Option, Some, None, Result, Ok, Err}
use Rattle.code.specs.Answers.{Found, number_told, width_told}
use Rattle.code.specs.declared.NoWidth.{NoWidth}
use Rattle.code.specs.declared.NoWidth.TheVariants.{NoByte, UnknownTag, CutOff}

-- what can be read back from its numbers has no double
pub read_back : {A : Type 0} (told : A → Found) (back : Found → A) → ((a : A) → back (told a) ≡ a) → (a b : A)
    → told a ≡ told b → a ≡ b
read_back told back same a b e = sym (same a) ∙ ap back e ∙ same b

width_back : Found → Result ℕ NoWidth
width_back t =
    cond (eqb t.number 0) (Ok t.value)
    (cond (eqb t.number 1) (Err NoByte) (cond (eqb t.number 2) (Err UnknownTag) (Err CutOff)))

width_same : (w : Result ℕ NoWidth) → width_back (width_told w) ≡ w
unfolding width_told width_back
width_same (Ok w) = refl
width_same (Err NoByte) = refl
width_same (Err UnknownTag) = refl
width_same (Err CutOff) = refl

pub one_width : (a b : Result ℕ NoWidth) → width_told a ≡ width_told b → a ≡ b
one_width = read_back width_told width_back width_same

number_back : Found → Option ℕ
number_back t = cond (eqb t.number 0) (Some t.value) None

number_same : (n : Option ℕ) → number_back (number_told n) ≡ n
unfolding number_told number_back
number_same (Some v) = refl
number_same None = refl

pub one_number : (a b : Option ℕ) → number_told a ≡ number_told b → a ≡ b
one_number = read_back number_told number_back number_same
