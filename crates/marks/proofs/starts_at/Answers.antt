-- `marks::starts_at` meets its contract: it reads the bit of a place within the words, and of no other.
use mathlib.Core.Bool.{Bool, false}
use mathlib.Core.List.{List}
use mathlib.Core.Path.{◌≡◌, ◌∙◌}
use Prim.Native.Nat.{ℕ, ◌/◌, ◌%◌, ◌^◌, ◌≤◌, ◌<◌}
use denote.Bor.{Bor}
use lib.Bits.{bit_and, and_mask}
use lib.Dec.{eqb}
use lib.ListN.{length, get_or}
use Rattle.std.proofs.Common.{Option, Some, None, rules, tests}
use Rattle.std.specs.List.{HoldsAt}
use Rattle.std.specs.Option.{MatchOption}
use Rattle.marks.specs.Places.{bit_at, is_one}
use Rattle.marks.proofs.Laws.{bit_past}
use Rattle.marks.proofs.starts_at.Goals as goal

module _ (marks : List ℕ) (at : ℕ) where
  -- the code's test reads the bit of the place
  tested : eqb (bit_and (get_or marks (at / 64) 0 / 2 ^ (at % 64)) 1) 1 ≡ is_one (bit_at marks at)
  unfolding bit_at
  tested = rw (and_mask (get_or marks (at / 64) 0 / 2 ^ (at % 64)) 1)

  -- past the words it is not set
  past : length marks ≤ at / 64 → false ≡ is_one (bit_at marks at)
  past h = rw (bit_past marks at h)

  told : (word : Option (Bor ℕ)) (b : Bool) (Test : Bor ℕ → Type 0)
      → ((x : Bor ℕ) → Test x → b ≡ eqb (bit_and (x.now / 2 ^ (at % 64)) 1) 1)
      → MatchOption word (length marks ≤ at / 64)
      (λ x. (at / 64 < length marks) × HoldsAt (λ y. x.now ≡ y) marks (at / 64))
      → MatchOption word (b ≡ false) Test → b ≡ is_one (bit_at marks at)
  told None b Test f h e = e ∙ past h
  told (Some x) b Test f h e = f x e ∙ rw (h.1 0) tested

pub returns : goal.returns
returns c =
    told c.args.marks.now c.args.at c.get.result c.is_some_and.result _ (λ x k. search (rules, tests))
    c.get.ensures.lookup.3 c.is_some_and.ensures
