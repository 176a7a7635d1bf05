-- What is read from a place is fixed: the starts from there on, in order, and then the ending that the definition gives.
-- Whatever is read is that, and that is read.
use mathlib.Core.List.{List, [], ◌∷◌}
use mathlib.Core.Path.{◌≡◌, refl, sym, ap, ◌∙◌, subst₂}
use Prim.Native.Nat.{ℕ, zero, suc, ◌+◌, ◌≤◌, ◌<◌}
use native.Mathlib.Omega.{arith}
use borrow.Author.Tests.{ne_eqb, eq-eqb}
use lib.ListN.{length, get_or}
use Rattle.std.specs.Prelude.{Result, Ok, Err}
use Rattle.code.specs.Width.{width_by, width_of}
use Rattle.listing.specs.Listing.{instruction, ending_at, listed_by, stop_by, ending}
use Rattle.listing.specs.Starts.{starts_by, starts}
use Rattle.listing.specs.declared.Item.{Item}
use Rattle.listing.specs.declared.Ending.{Ending}
use Rattle.listing.proofs.Starts.{all_within, starts_on, starts_stop, stop_on, stop_stop}
use Rattle.listing.proofs.WalkLaws.{from_end}
use Rattle.reader.specs.Reading.{place_after, Reads, ends, goes_on}

-- an instruction is no ending
both_ways : {item : Item} {ending : Ending} {A : Type 0} → Ok item ≡ Err ending → A
both_ways e = absurd cc

module _ (table : ℕ → ℕ) (code : List ℕ) where
  -- what stands at a place, where it has a width and where it has none
  pub listed_wide : (at : ℕ) → 0 < width_by table code at
      → listed_by table code at ≡ Ok (instruction at (get_or code at 0) (width_by table code at))
  unfolding listed_by
  listed_wide at h = rw (ne_eqb (width_by table code at) 0 (λ z. omega arith))

  listed_ending : (at : ℕ) → width_by table code at ≡ 0 → listed_by table code at ≡ Err (ending_at code at)
  unfolding listed_by
  listed_ending at e = rw (eq-eqb (width_by table code at) 0 e)

  -- so what stands there tells whether it has one
  pub wide : (at : ℕ) {item : Item} → listed_by table code at ≡ Ok item → 0 < width_by table code at
  wide at i = go (width_by table code at) refl
    where
      go : (w : ℕ) → width_by table code at ≡ w → 0 < w
      go zero e = both_ways (sym i ∙ listed_ending at e)
      go (suc w) e = omega arith

  pub without : (at : ℕ) {last : Ending} → listed_by table code at ≡ Err last → width_by table code at ≡ 0
  without at i = go (width_by table code at) refl
    where
      go : (w : ℕ) → width_by table code at ≡ w → w ≡ 0
      go zero e = refl
      go (suc w) e = both_ways (sym (listed_wide at (omega arith)) ∙ i)

  -- at an ending: no start is left, and the starts stop here
  none_left : (at : ℕ) → width_by table code at ≡ 0 → [] ≡ starts_by table code at
  none_left at z = sym (starts_stop table code at z)

  ends_here : (at : ℕ) → width_by table code at ≡ 0 → ending_at code at ≡ ending_at code (stop_by table code at)
  ends_here at z = ap (ending_at code) (sym (stop_stop table code at z))

  the_ending : (at : ℕ) {last : Ending} → listed_by table code at ≡ Err last
      → last ≡ ending_at code (stop_by table code at)
  the_ending at {last} i =
      let same : Err last ≡ Err (ending_at code at) = sym i ∙ listed_ending at (without at i) in
      let here : last ≡ ending_at code at = cc in
      here ∙ ends_here at (without at i)

  -- at an instruction: it is the first start, and the others and their stop are those from the place after it
  pub item_is : (at : ℕ) {item : Item} → listed_by table code at ≡ Ok item
      → item ≡ instruction at (get_or code at 0) (width_by table code at)
  item_is at {item} i =
      let same : Ok (instruction at (get_or code at 0) (width_by table code at)) ≡ Ok item =
      sym (listed_wide at (wide at i)) ∙ i in
      cc

  one_more : (at : ℕ) {item : Item} → listed_by table code at ≡ Ok item
      → item.at ∷ starts_by table code (place_after (Ok item) at) ≡ starts_by table code at
  unfolding place_after
  one_more at i =
      ap (λ (x : Item). x.at ∷ starts_by table code x.next) (item_is at i) ∙ sym (starts_on table code at (wide at i))

  ends_later : (at : ℕ) {item : Item} → listed_by table code at ≡ Ok item
      → ending_at code (stop_by table code (place_after (Ok item) at)) ≡ ending_at code (stop_by table code at)
  unfolding place_after
  ends_later at i =
      ap (ending_at code)
      (ap (λ (x : Item). stop_by table code x.next) (item_is at i) ∙ sym (stop_on table code at (wide at i)))

  -- the place after what stands at a place, where it has a width and where it has none
  place_on : (at : ℕ) → 0 < width_by table code at → place_after (listed_by table code at) at ≡ at + width_by table code at
  unfolding place_after
  place_on at p = ap (λ (t : Result Item Ending). place_after t at) (listed_wide at p)

  place_same : (at : ℕ) → width_by table code at ≡ 0 → place_after (listed_by table code at) at ≡ at
  unfolding place_after
  place_same at z = ap (λ (t : Result Item Ending). place_after t at) (listed_ending at z)

  -- who stays at a place is where the starts stop; who moves goes on, within the code, to where they stop likewise
  pub record Moved (at place : ℕ) : Type 0 where
    pub on : at < place
    pub within : place ≤ length code
    pub stop : stop_by table code place ≡ stop_by table code at

  pub stays : (at : ℕ) → place_after (listed_by table code at) at ≡ at → stop_by table code at ≡ at
  stays at e = go (width_by table code at) refl
    where
      go : (w : ℕ) → width_by table code at ≡ w → stop_by table code at ≡ at
      go zero z = stop_stop table code at z
      go (suc w) z =
          let p : 0 < width_by table code at = omega arith in
          absurd (omega (arith, e, place_on at p))

  pub moves : (at : ℕ) → (place_after (listed_by table code at) at ≡ at → ⊥) → Moved at (place_after (listed_by table code at) at)
  moves at d = go (width_by table code at) refl
    where
      go : (w : ℕ) → width_by table code at ≡ w → Moved at (place_after (listed_by table code at) at)
      go zero z = absurd (d (place_same at z))
      go (suc w) z =
          let p : 0 < width_by table code at = omega arith in
          rw (place_on at p)
          (record {
            on = omega arith;
            within = (all_within table code).within at p;
            stop = sym (stop_on table code at p);
          })

  -- whatever is read from a place is the starts from there on, and their ending
  pub only_those : {at : ℕ} {offsets : List ℕ} {last : Ending} → Reads table code at offsets last
      → (offsets ≡ starts_by table code at) × (last ≡ ending_at code (stop_by table code at))
  only_those (ends {at} i) = (none_left at (without at i), the_ending at i)
  only_those (goes_on {at} {item} i more) =
      let rest = only_those more in
      (ap (λ (s : List ℕ). item.at ∷ s) rest.0 ∙ one_more at i, rest.1 ∙ ends_later at i)

  -- and these are read
  abbrev AllRead : ℕ → Type 0
  AllRead at = Reads table code at (starts_by table code at) (ending_at code (stop_by table code at))

  pub all_read : (at : ℕ) → Reads table code at (starts_by table code at) (ending_at code (stop_by table code at))
  unfolding place_after
  all_read = from_end (all_within table code) AllRead stops goes
    where
      stops : (at : ℕ) → width_by table code at ≡ 0 → AllRead at
      stops at z = subst₂ (Reads table code at) (none_left at z) (ends_here at z) (ends (listed_ending at z))

      goes : (at : ℕ) → 0 < width_by table code at → AllRead (at + width_by table code at) → AllRead at
      goes at p rest =
          let i = listed_wide at p in
          subst₂ (Reads table code at) (one_more at i) (ends_later at i) (goes_on i rest)

-- by document 01's table, from the code's first byte: the starts, and the ending of the code
pub code_read : (code : List ℕ) → Reads width_of code 0 (starts code) (ending code)
code_read code = all_read width_of code 0

pub only_code : (code : List ℕ) {offsets : List ℕ} {last : Ending} → Reads width_of code 0 offsets last
    → (offsets ≡ starts code) × (last ≡ ending code)
only_code code = only_those width_of code
