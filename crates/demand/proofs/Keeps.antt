-- Theorem 5. Any code, span and pools that passed the checks before a walk make a machine that keeps the laws which the other
-- theorems ask for.
use mathlib.Core.Bool.{Bool, true, false, cond}
use mathlib.Core.List.Memᴰ
use mathlib.Core.List.{List, ◌∷◌}
use mathlib.Core.Logic.{◌⊎◌, inl, inr}
use mathlib.Core.Path.{◌≡◌, refl}
use Prim.Native.Nat.{ℕ, ◌+◌, ◌-◌, ◌≤◌, ◌<◌}
use native.Mathlib.Omega.{arith}
use lib.Dec.{eqb}
use lib.ListN.{length, length-map}
use Rattle.code.specs.Layout.{among}
use Rattle.code.specs.Tags.{byte, bytes, ITER_INIT, ITER_DROP, POP_HANDLER, iter_nexts, push_handlers}
use Rattle.code.specs.Width.{width_of, width_at}
use Rattle.code.proofs.Among.{member_among}
use Rattle.listing.proofs.Starts.{start_wide}
use Rattle.answer.specs.declared.Refusal.{Refusal}
use Rattle.answer.specs.declared.Depths.{Depths}
use Rattle.demand.specs.BeforeWalk.{BeforeWalk}
use Rattle.answer.specs.Depths.{Item}
use Rattle.rules.specs.Edges.{falls, targets, after_of, jumped_of, after, next, degree}
use Rattle.demand.specs.Span.{Span, chunk_starts}
use Rattle.rules.specs.Effects.{pops, pushes}
use Rattle.machine.specs.Lists.{◌∈◌, here, there}
use Rattle.machine.specs.Walk.{Ruling, fall_to}
use Rattle.demand.specs.Chunk.{all_targets, rule, machine}
use Rattle.rules.specs.Script.{Script, tag_of}
use Rattle.rules.proofs.Amounts.{pushes_at_most_one, pushes_none}
use Rattle.demand.proofs.Inside.{inside, judged, entry_starts, next_above, next_least, next_starts, listed}
use Rattle.machine.proofs.Laws.{InChunk, Given, Near, Carried, Fair, Laws}
use Rattle.machine.proofs.Lists.{∈-cases, map_∈}
use Rattle.demand.proofs.Says.{jump_to, jumps, fall, Says, no_rights, no_operands, no_iterator, no_handler}
use Rattle.demand.proofs.Says.{no_next, goes, says}

-- the targets of a listed place are among all of them
target_listed : (S : Script) (ps : List ℕ) {p t : ℕ} → p ∈ ps → t ∈ targets S p → t ∈ all_targets S ps
unfolding all_targets
target_listed S mathlib.Core.List.[] {p = p} {t = t} x'' m = elim x'' [ ]
target_listed S (q ∷ ps) {p} {t} (here e) m = Memᴰ.append_left (all_targets S ps) (rw e at m)
target_listed S (q ∷ ps) (there k) m = Memᴰ.append_right (targets S q) (target_listed S ps k m)

-- ---- depths

-- what holds of both holds of the one that a test picks
either : {A : Type 0} (P : A → Type 0) (test : Bool) {x y : A} → P x → P y → P (cond test x y)
either P true h k = h
either P false h k = k

-- no depth grows by more than one, neither after an instruction nor at its targets
near_after : (tag pops pushes : ℕ) (d : Depths) → pushes ≤ 1 → Near d (after_of tag pops pushes d)
unfolding after_of
near_after tag pops pushes d one = record {
  operands = omega arith;
  iterators = up_or_down (eqb tag (byte ITER_INIT)) (eqb tag (byte ITER_DROP)) d.iterators;
  handlers = up_or_down (among tag (bytes push_handlers)) (eqb tag (byte POP_HANDLER)) d.handlers;
}
  where
    up_or_down : (up down : Bool) (n : ℕ) → cond up (n + 1) (cond down (n - 1) n) ≤ n + 1
    up_or_down true down n = omega arith
    up_or_down false true n = omega arith
    up_or_down false false n = omega arith

near_jumped : (tag : ℕ) (d a : Depths) → Near d a → Near d (jumped_of tag d a)
unfolding jumped_of
near_jumped tag d a h =
    either (Near d) (among tag (bytes iter_nexts)) (record { operands = omega arith; iterators = omega arith; handlers = omega arith })
    (either (Near d) (among tag (bytes push_handlers)) (record { operands = omega arith; iterators = omega arith; handlers = omega arith }) h)

-- ---- what the rule gives at an in-chunk start

module _ (S : Script) (span : Span) {records work : ℕ} (B : BeforeWalk S span records work) (p : ℕ) (d : Depths) (c : InChunk (machine S span) p) where
  wide : 0 < width_at S.code p
  wide = start_wide width_of S.code (inside S span c).start

  near_here : Near d (after S p d)
  near_here =
      near_after (tag_of S p) (pops S.code S.pools.chains p) (pushes S.code S.pools.chains p) d
      (pushes_at_most_one S.code S.pools.chains p wide)

  jump_named : (j : Item) → j ∈ jumps S span p d → among j.place (span.entry ∷ all_targets S (chunk_starts S span)) ≡ true
  jump_named j m =
      let t = map_∈ (jump_to S span p d) (targets S p) m in
      let k = target_listed S (chunk_starts S span) (listed S span B c) t.1 in
      rw (← t.2) (member_among t.0 (span.entry ∷ all_targets S (chunk_starts S span)) (there k))

  near_jump : (e : Item) → e ∈ jumps S span p d → Near d e.depths
  near_jump e m = rw (← (map_∈ (jump_to S span p d) (targets S p) m).2) (near_jumped (tag_of S p) d (after S p d) near_here)

  near_edge : (b : Bool) (e : Item) → e ∈ fall_to (next S p) (fall S span p d b) (jumps S span p d) → Near d e.depths
  unfolding fall_to
  near_edge true e m = go (∈-cases m)
    where
      go : (e ≡ record { place = next S p; depths = after S p d }) ⊎ (e ∈ jumps S span p d) → Near d e.depths
      go (inl q) = rw q near_here
      go (inr k) = near_jump e k
  near_edge false e m = near_jump e m

  edge_count : (b : Bool) → length (fall_to (next S p) (fall S span p d b) (jumps S span p d)) ≡ length (targets S p) + cond b 1 0
  unfolding fall_to
  edge_count true = omega (arith, length-map (targets S p) (jump_to S span p d))
  edge_count false = omega (arith, length-map (targets S p) (jump_to S span p d))

  carried : (b : Bool) → falls (tag_of S p) ≡ b → Carried (after S p d).operands d (fall_to (next S p) (fall S span p d b) (jumps S span p d))
  unfolding fall_to after_of
  carried true e = inr (record { place = next S p; depths = after S p d }, here refl, omega arith)
  carried false e = inl (omega (arith, pushes_none S.code S.pools.chains p wide e))

  fair : Fair (machine S span) (degree S) (record { place = p; depths = d }) (after S p d).operands (fall S span p d (falls (tag_of S p))) (jumps S span p d)
  unfolding degree
  fair = record {
    named = jump_named;
    count = edge_count (falls (tag_of S p));
    near = near_edge (falls (tag_of S p));
    carried = carried (falls (tag_of S p)) refl;
  }

  ruled_fairly : Given (Fair (machine S span) (degree S) (record { place = p; depths = d })) (rule S span p d)
  ruled_fairly = go (rule S span p d) (says S span p d)
    where
      go : (o : Ruling Refusal) → Says S span p d o → Given (Fair (machine S span) (degree S) (record { place = p; depths = d })) o
      go o (no_rights l e) = rw e tt
      go o (no_operands r l e) = rw e tt
      go o (no_iterator r n l e) = rw e tt
      go o (no_handler r n l e) = rw e tt
      go o (no_next able q l e) = rw e tt
      go o (goes able n e) = rw e fair

-- ---- the laws

pub keeps_laws : (S : Script) (span : Span) {records work : ℕ} → BeforeWalk S span records work → Laws (machine S span) (degree S) (chunk_starts S span)
keeps_laws S span B = record {
  entry_named = member_among span.entry (span.entry ∷ all_targets S (chunk_starts S span)) (here refl);
  entry_starts = λ h. (entry_starts S span B h).starts;
  next_above = next_above S span B;
  next_least = next_least S span B;
  next_starts = λ c h. (next_starts S span B c h).starts;
  listed = listed S span B;
  judged = judged S span;
  fair = λ it c. ruled_fairly S span B it.place it.depths c;
}
