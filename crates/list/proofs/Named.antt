-- A byte that is no tag of the list has no name.
use mathlib.Core.List.{List, [], ◌∷◌}
use mathlib.Core.Path.{◌≡◌, refl}
use Prim.Native.Nat.{ℕ}
use borrow.Author.Tests.{ne_eqb}
use Rattle.list.specs.Names.{Named, tag_names, name_in, name_of}

abbrev NoneOf : ℕ → List Named → Type 0
NoneOf tag [] = Unit {0}
NoneOf tag (this ∷ others) = (tag ≡ this.tag → ⊥) × NoneOf tag others

none_in : (names : List Named) (tag : ℕ) → NoneOf tag names → [] ≡ name_in names tag
unfolding name_in
none_in [] tag none = refl
none_in (this ∷ others) tag none = rw (ne_eqb tag this.tag none.0) (none_in others tag none.1)

pub no_name : (tag : ℕ) → NoneOf tag tag_names → [] ≡ name_of tag
no_name = none_in tag_names
