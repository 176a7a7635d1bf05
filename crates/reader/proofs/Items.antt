-- The instructions in turn from a place on: the one that stands there and those from the place after it, and none where
-- none stands; their offsets are the starts, and a chain over a reader gives them.
use mathlib.Core.List.{List, [], ◌∷◌, map}
use mathlib.Core.Path.{◌≡◌, sym, ap, ◌∙◌}
use Prim.Native.Nat.{ℕ, ◌+◌, ◌-◌, ◌≤◌, ◌<◌, zero-le}
use native.Mathlib.Omega.{arith}
use lib.ListN.{length, get_or}
use Rattle.std.specs.Prelude.{Ok, Err, Option}
use Rattle.std.specs.Iterator.{YieldsFirst}
use Rattle.std.proofs.lemmas.Iterator.{YieldsList}
use Rattle.std.proofs.lemmas.Iterator.Consumers.{YieldsList-from_shown}
use Rattle.code.specs.Width.{width_by}
use Rattle.listing.specs.Listing.{instruction, listed_by}
use Rattle.listing.specs.Starts.{starts_by}
use Rattle.listing.specs.declared.Item.{Item}
use Rattle.listing.specs.declared.Ending.{Ending}
use Rattle.listing.proofs.Starts.{all_within, starts_on, starts_stop}
use Rattle.listing.proofs.WalkLaws.{from_end, walk_on, walk_stop}
use Rattle.reader.specs.Items.{items_by}
use Rattle.reader.proofs.Reading.{wide, without, item_is}

module _ (table : ℕ → ℕ) (code : List ℕ) where
  abbrev one_more : ℕ → List Item → List Item
  one_more i rest = instruction i (get_or code i 0) (width_by table code i) ∷ rest

  items_on : (at : ℕ) → 0 < width_by table code at
      → items_by table code at
      ≡ instruction at (get_or code at 0) (width_by table code at) ∷ items_by table code (at + width_by table code at)
  unfolding items_by
  items_on at p = walk_on one_more (λ i. []) (all_within table code) at p

  items_stop : (at : ℕ) → width_by table code at ≡ 0 → items_by table code at ≡ []
  unfolding items_by
  items_stop at z = walk_stop one_more (λ i. []) (all_within table code) at z

  pub first_item : (at : ℕ) (item : Item) → listed_by table code at ≡ Ok item
      → items_by table code at ≡ item ∷ items_by table code item.next
  first_item at item i =
      items_on at (wide table code at i)
      ∙ ap (λ (x : Item). x ∷ items_by table code x.next) (sym (item_is table code at i))

  pub no_item : (at : ℕ) (ending : Ending) → listed_by table code at ≡ Err ending → items_by table code at ≡ []
  no_item at ending i = items_stop at (without table code at i)

  -- their offsets are the starts
  pub at_starts : (at : ℕ) → map (λ (i : Item). i.at) (items_by table code at) ≡ starts_by table code at
  at_starts = from_end (all_within table code) AtStarts stops goes
    where
      AtStarts : ℕ → Type 0
      AtStarts at = map (λ (i : Item). i.at) (items_by table code at) ≡ starts_by table code at

      stops : (at : ℕ) → width_by table code at ≡ 0 → AtStarts at
      stops at z = rw (items_stop at z) (sym (starts_stop table code at z))

      goes : (at : ℕ) → 0 < width_by table code at → AtStarts (at + width_by table code at) → AtStarts at
      goes at p rest = rw (items_on at p) (ap (λ (s : List ℕ). at ∷ s) rest ∙ sym (starts_on table code at p))

  -- they are no more than there are bytes left
  pub few_items : (at : ℕ) → length (items_by table code at) ≤ length code - at
  few_items = from_end (all_within table code) Few stops goes
    where
      Few : ℕ → Type 0
      Few at = length (items_by table code at) ≤ length code - at

      stops : (at : ℕ) → width_by table code at ≡ 0 → Few at
      stops at z = rw (items_stop at z) zero-le

      goes : (at : ℕ) → 0 < width_by table code at → Few (at + width_by table code at) → Few at
      goes at p rest = rw (items_on at p) (omega (arith, rest, (all_within table code).within at p))

-- ---- the reader as an iterator

-- an iterator that gives the first of what is left, of which more is known besides, gives what is left, in turn: with
-- this the proof of a chain over a reader begins
pub all_given : {S A : Type 0} (rest : S → List A) (More : S → Option A → S → Type 0) (s : S)
    → YieldsList (λ z r t. YieldsFirst rest z r t × More z r t) (λ x. x) s (rest s)
all_given rest More s =
    YieldsList-from_shown (λ z r t. YieldsFirst rest z r t × More z r t) (λ x. x) rest (λ z t y. ap length y.0.0)
    (λ z x t y. y.0) s
