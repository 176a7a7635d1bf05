-- The tests of an instruction's entries in the code's own terms, each as its definition.
use mathlib.Core.Bool.{Bool, true, false, ◌&&◌, ◌||◌}
use mathlib.Core.List.{List}
use mathlib.Core.Path.{◌≡◌, refl, sym, ap, ◌∙◌}
use Prim.Native.Nat.{ℕ, ◌+◌, ◌*◌, ◌≤◌, ◌<◌}
use borrow.Author.Tests.{eq-eqb, ne_eqb, lt-ltb, le-ltb}
use Rattle.std.specs.Prelude.{Result, Ok, Err, is_ok}
use lib.Dec.{eqb, leb, ltb}
use lib.ListN.{length, get_or}
use Rattle.code.proofs.Widths.{wide, told_width}
use Rattle.code.specs.Layout.{among, tag_at, index_at}
use Rattle.code.specs.Tags.{byte, bytes}
use Rattle.code.specs.Tags.{CHAIN, SWITCH}
use Rattle.code.specs.Answers.{found_at}
use Rattle.code.specs.declared.NoWidth.{NoWidth}
use Rattle.code.specs.Width.{width_of, width_at}
use Rattle.pools.specs.Pools.{chain_at, switch_at, chain_words, switch_words, chains_in, steps_in, switches_in, cases_in}
use Rattle.rules.proofs.Operands.{index_there}
use Rattle.rules.specs.Asks.{qualifiable}
use Rattle.guards.specs.Guards.{has_width, has_name, has_chain, has_switch}

third : (a b c : Bool) → c ≡ true → a || (b || c) ≡ true
third true b c e = refl
third false true c e = refl
third false false c e = e

module _ (code : List ℕ) (at : ℕ) where
  -- ---- a width

  pub width_ok : (t : Result ℕ NoWidth) → t ≡ found_at code at → is_ok t ≡ has_width code at
  unfolding has_width
  width_ok (Ok w) e =
      sym (lt-ltb 0 w (wide width_of code at w e).some) ∙ sym (ap (ltb 0) (told_width width_of code at e))
  width_ok (Err why) e = sym (ap (ltb 0) (told_width width_of code at e))

  -- ---- a name

  module _ (names : List ℕ) where
    pub no_name_asked : among (tag_at code at) (bytes qualifiable) ≡ false → true ≡ has_name code at names
    unfolding has_name
    no_name_asked e = rw e

    pub name_asked : among (tag_at code at) (bytes qualifiable) ≡ true → (i : ℕ) → i ≡ index_at code at → ltb i (length names) ≡ has_name code at names
    unfolding has_name
    name_asked e i q = rw (e, q)

  pub name_index : 0 < width_at code at → among (tag_at code at) (bytes qualifiable) ≡ true → at + 3 ≤ length code
  unfolding among
  name_index h e = index_there code at h (third (eqb (tag_at code at) (byte CHAIN)) (eqb (tag_at code at) (byte SWITCH)) _ e)

  -- ---- a chain

  module _ (chains steps : List ℕ) where
    pub no_chain_asked : (tag_at code at ≡ byte CHAIN → ⊥) → true ≡ has_chain code at chains steps
    unfolding has_chain
    no_chain_asked n = rw (ne_eqb (tag_at code at) (byte CHAIN) n)

    module _ (e : tag_at code at ≡ byte CHAIN) (i : ℕ) (q : i ≡ index_at code at) where
      abbrev steps_lie : Bool
      steps_lie = leb (get_or chains (i * chain_words + 5) 0 + get_or chains (i * chain_words + 6) 0) (steps_in steps)

      asked_chain : has_chain code at chains steps
          ≡ (ltb i (chains_in chains) && steps_lie)
      unfolding has_chain chain_at
      asked_chain = rw (eq-eqb (tag_at code at) (byte CHAIN) e, q)

      pub chain_past : chains_in chains ≤ i → false ≡ has_chain code at chains steps
      chain_past l = sym (asked_chain ∙ rw (le-ltb i (chains_in chains) l) refl)

      pub chain_within : i < chains_in chains
          → steps_lie ≡ has_chain code at chains steps
      chain_within l = sym (asked_chain ∙ rw (lt-ltb i (chains_in chains) l) refl)

  -- ---- a switch

  module _ (switches cases ranges : List ℕ) where
    pub no_switch_asked : (tag_at code at ≡ byte SWITCH → ⊥) → true ≡ has_switch code at switches cases ranges
    unfolding has_switch
    no_switch_asked n = rw (ne_eqb (tag_at code at) (byte SWITCH) n)

    module _ (e : tag_at code at ≡ byte SWITCH) (i : ℕ) (q : i ≡ index_at code at) where
      abbrev cases_lie : Bool
      cases_lie = leb (get_or switches (i * switch_words) 0 + get_or switches (i * switch_words + 1) 0) (cases_in cases)

      abbrev ranges_lie : Bool
      ranges_lie = leb (get_or switches (i * switch_words + 2) 0 + get_or switches (i * switch_words + 3) 0) (length ranges)

      asked_switch : has_switch code at switches cases ranges ≡ (ltb i (switches_in switches) && (cases_lie && ranges_lie))
      unfolding has_switch switch_at
      asked_switch = rw (eq-eqb (tag_at code at) (byte SWITCH) e, q)

      pub switch_past : switches_in switches ≤ i → false ≡ has_switch code at switches cases ranges
      switch_past l = sym (asked_switch ∙ rw (le-ltb i (switches_in switches) l) refl)

      pub cases_past : i < switches_in switches → cases_lie ≡ false → false ≡ has_switch code at switches cases ranges
      cases_past l f = sym (asked_switch ∙ rw (lt-ltb i (switches_in switches) l, f) refl)

      pub switch_within : i < switches_in switches → cases_lie ≡ true
          → ranges_lie ≡ has_switch code at switches cases ranges
      switch_within l f = sym (asked_switch ∙ rw (lt-ltb i (switches_in switches) l, f) refl)
