-- The rule of one instruction, case by case: it denies by the first test that fails, with that test's values; or the
-- instruction has all that it needs, and control goes where its edges lead.
use mathlib.Core.Bool.{Bool, true, false, not, ◌&&◌, cond}
use mathlib.Core.List.Memᴰ
use mathlib.Core.List.{List, [], ◌∷◌, ◌++◌, map, append-nil}
use mathlib.Core.Logic.{◌⊎◌, inl, inr, ◌↔◌}
use mathlib.Core.Option.{Option, none, some}
use mathlib.Core.Path.{◌≡◌, refl, ap}
use Prim.Native.Nat.{ℕ, ◌≤◌, ◌<◌}
use native.Mathlib.Omega.{arith}
use borrow.Author.Tests.{ltb-true, ltb-false, leb-true, leb-false}
use lib.Dec.{ltb, leb}
use Rattle.code.specs.Layout.{among}
use Rattle.code.specs.Tags.{bytes, RETURN, THROW, JUMP, SWITCH}
use Rattle.code.proofs.Among.{among_member, member_among}
use Rattle.answer.specs.Answer.{unless}
use Rattle.answer.specs.declared.Refusal.{Refusal}
use Rattle.answer.specs.declared.Refusal.TheVariants.{MissingCaps, Underflow, FallsOffTheEnd, IteratorUnderflow}
use Rattle.answer.specs.declared.Refusal.TheVariants.{HandlerUnderflow}
use Rattle.answer.specs.declared.Depths.{Depths}
use Rattle.answer.specs.Depths.{Item}
use Rattle.rules.specs.Edges.{jumping, falls, plain, targets, after, jumped, next, edges}
use Rattle.machine.specs.Lists.{◌∈◌, here, there}
use Rattle.machine.specs.Walk.{Ruling, denies, gives, fall_to}
use Rattle.rules.specs.Needs.{iterators_needed, handlers_needed, lacks, operands_needed, Able}
use Rattle.demand.specs.Chunk.{needs_test, rule}
use Rattle.rules.specs.Script.{Script, tag_of}
use Rattle.demand.specs.Span.{Span}
use Rattle.machine.proofs.Lists.{∈-cases, ∉-nil}
use Rattle.answer.proofs.Apart.{zero≢one}

module _ (S : Script) (span : Span) (p : ℕ) (d : Depths) where
  -- where it goes
  abbrev pub fall : Bool → Option Depths
  fall b = cond b (some (after S p d)) none

  abbrev pub jump_to : ℕ → Item
  jump_to t = record { place = t; depths = jumped S p d }

  abbrev pub jumps : List Item
  jumps = map jump_to (targets S p)

  pub data Says (o : Ruling Refusal) : Type 0 where
    no_rights : 0 < lacks S p → o ≡ denies (MissingCaps p (lacks S p)) → Says o
    no_operands : lacks S p ≡ 0 → d.operands < operands_needed S p → o ≡ denies (Underflow p (operands_needed S p) d.operands) → Says o
    no_iterator : lacks S p ≡ 0 → operands_needed S p ≤ d.operands → d.iterators < iterators_needed (tag_of S p) → o ≡ denies (IteratorUnderflow p) → Says o
    no_handler : lacks S p ≡ 0 → operands_needed S p ≤ d.operands → d.handlers < handlers_needed (tag_of S p) → o ≡ denies (HandlerUnderflow p) → Says o
    no_next : Able S p d → plain (tag_of S p) ≡ true → span.end ≤ next S p → o ≡ denies FallsOffTheEnd → Says o
    goes : Able S p d → (plain (tag_of S p) ≡ true → next S p < span.end)
        → o ≡ gives (after S p d).operands (fall (falls (tag_of S p))) jumps → Says o

  pub says : Says (rule S span p d)
  unfolding rule needs_test unless
  says = by_rights (ltb 0 (lacks S p)) refl
    where
      ruling : Bool → Bool → Bool → Bool → Bool → Ruling Refusal
      ruling a b e f g =
          unless denies
          (cond a (some (MissingCaps p (lacks S p)))
          (cond b (some (Underflow p (operands_needed S p) d.operands))
          (cond e (some (IteratorUnderflow p)) (cond f (some (HandlerUnderflow p)) none))))
          (cond g (denies FallsOffTheEnd) (gives (after S p d).operands (fall (falls (tag_of S p))) jumps))

      by_end : Able S p d → (s : Bool) → plain (tag_of S p) ≡ s → (t : Bool) → leb span.end (next S p) ≡ t
          → Says (ruling false false false false (s && t))
      by_end able true qs true qt = no_next able qs (leb-true span.end (next S p) qt) refl
      by_end able true qs false qt = goes able (λ e. leb-false span.end (next S p) qt) refl
      by_end able false qs t qt = goes able (λ e. absurd (zero≢one (cc))) refl

      at_end : Bool
      at_end = plain (tag_of S p) && leb span.end (next S p)

      by_handlers : lacks S p ≡ 0 → operands_needed S p ≤ d.operands → iterators_needed (tag_of S p) ≤ d.iterators
          → (f : Bool) → ltb d.handlers (handlers_needed (tag_of S p)) ≡ f → Says (ruling false false false f at_end)
      by_handlers r o i true q = no_handler r o (ltb-true d.handlers (handlers_needed (tag_of S p)) q) refl
      by_handlers r o i false q =
          by_end (record { rights = r; operands = o; iterators = i; handlers = ltb-false d.handlers (handlers_needed (tag_of S p)) q })
          (plain (tag_of S p)) refl (leb span.end (next S p)) refl

      by_iterators : lacks S p ≡ 0 → operands_needed S p ≤ d.operands → (e : Bool) → ltb d.iterators (iterators_needed (tag_of S p)) ≡ e
          → Says (ruling false false e (ltb d.handlers (handlers_needed (tag_of S p))) at_end)
      by_iterators r o true q = no_iterator r o (ltb-true d.iterators (iterators_needed (tag_of S p)) q) refl
      by_iterators r o false q =
          by_handlers r o (ltb-false d.iterators (iterators_needed (tag_of S p)) q) (ltb d.handlers (handlers_needed (tag_of S p))) refl

      by_operands : lacks S p ≡ 0 → (b : Bool) → ltb d.operands (operands_needed S p) ≡ b
          → Says (ruling false b (ltb d.iterators (iterators_needed (tag_of S p))) (ltb d.handlers (handlers_needed (tag_of S p))) at_end)
      by_operands r true q = no_operands r (ltb-true d.operands (operands_needed S p) q) refl
      by_operands r false q = by_iterators r (ltb-false d.operands (operands_needed S p) q) (ltb d.iterators (iterators_needed (tag_of S p))) refl

      by_rights : (a : Bool) → ltb 0 (lacks S p) ≡ a
          → Says (ruling a (ltb d.operands (operands_needed S p)) (ltb d.iterators (iterators_needed (tag_of S p))) (ltb d.handlers (handlers_needed (tag_of S p))) at_end)
      by_rights true q = no_rights (ltb-true 0 (lacks S p) q) refl
      by_rights false q = let none = ltb-false 0 (lacks S p) q in by_operands (omega arith) (ltb d.operands (operands_needed S p)) refl

  -- the edges of the definition are those of what the rule gives: the fall-through and the jumps
  pub edges_given : (e : Item) → e ∈ edges S p d ↔ e ∈ fall_to (next S p) (fall (falls (tag_of S p))) jumps
  unfolding edges fall_to
  edges_given e = (to (falls (tag_of S p)), back (falls (tag_of S p)))
    where
      through : Item
      through = record { place = next S p; depths = after S p d }

      to : (b : Bool) → e ∈ (jumps ++ cond b (through ∷ []) []) → e ∈ fall_to (next S p) (fall b) jumps
      to true m = go (Memᴰ.append_cases jumps m)
        where
          go : (e ∈ jumps) ⊎ (e ∈ (through ∷ [])) → e ∈ (through ∷ jumps)
          go (inl k) = there k
          go (inr k) = here (Memᴰ.eq_of_singleton k)
      to false m = rw append-nil at m

      back : (b : Bool) → e ∈ fall_to (next S p) (fall b) jumps → e ∈ (jumps ++ cond b (through ∷ []) [])
      back true m = go (∈-cases m)
        where
          go : (e ≡ through) ⊎ (e ∈ jumps) → e ∈ (jumps ++ (through ∷ []))
          go (inl q) = Memᴰ.append_right jumps (here q)
          go (inr k) = Memᴰ.append_left (through ∷ []) k
      back false m = rw append-nil m

  -- where control falls through, the fall-through is an edge
  pub falls_edge : falls (tag_of S p) ≡ true → record { place = next S p; depths = after S p d } ∈ edges S p d
  unfolding fall_to
  falls_edge e = (edges_given _).1 (rw e (here refl))

-- a plain instruction falls through
pub plain_falls : (tag : ℕ) → plain tag ≡ true → falls tag ≡ true
unfolding plain falls
plain_falls tag q = go (among tag (bytes (RETURN ∷ THROW ∷ JUMP ∷ SWITCH ∷ []))) refl
  where
    larger : tag ∈ bytes (RETURN ∷ THROW ∷ JUMP ∷ SWITCH ∷ []) → tag ∈ bytes (RETURN ∷ THROW ∷ SWITCH ∷ jumping)
    larger (here e) = here e
    larger (there (here e)) = there (here e)
    larger (there (there (here e))) = there (there (there (here e)))
    larger (there (there (there (here e)))) = there (there (here e))
    larger (there (there (there (there m)))) = absurd (∉-nil m)

    go : (b : Bool) → among tag (bytes (RETURN ∷ THROW ∷ JUMP ∷ SWITCH ∷ [])) ≡ b → not b ≡ true
    go false e = refl
    go true e =
        let falling = among_member tag (bytes (RETURN ∷ THROW ∷ JUMP ∷ SWITCH ∷ [])) e in
        let all = member_among tag (bytes (RETURN ∷ THROW ∷ SWITCH ∷ jumping)) (larger falling) in
        absurd (zero≢one (cc (ap not all)))
