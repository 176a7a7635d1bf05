-- Paths and writings of a chunk are those of its machine: what the statements of specs/ say without knowing the walk, the
-- theorems about the walk say of the machine.
use mathlib.Core.Bool.{Bool, true, false, ◌||◌, cond}
use mathlib.Core.Logic.{inl, inr, ◌↔◌}
use mathlib.Core.Option.{Option, none, some}
use mathlib.Core.Path.{◌≡◌, refl, ◌∙◌}
use Prim.Native.Nat.{ℕ, ◌<◌}
use native.Mathlib.Omega.{arith}
use borrow.Author.Tests.{ltb-true, ltb-false, leb-true, leb-false}
use lib.Dec.{ltb, leb}
use Rattle.code.specs.Layout.{among}
use Rattle.code.specs.Width.{width_of}
use Rattle.code.proofs.Among.{member_among}
use Rattle.listing.specs.Starts.{starts}
use Rattle.listing.proofs.Starts.{start_listed}
use Rattle.answer.specs.declared.Refusal.{Refusal}
use Rattle.answer.specs.declared.Refusal.TheVariants.{MissingCaps, JumpOutOfRange, JumpIntoAnInstruction, Underflow}
use Rattle.answer.specs.declared.Refusal.TheVariants.{FallsOffTheEnd, IteratorUnderflow, HandlerUnderflow}
use Rattle.answer.specs.declared.Depths.{Depths}
use Rattle.answer.specs.Depths.{Item}
use Rattle.rules.specs.Edges.{after, edges, falls, plain, targets, next}
use Rattle.machine.specs.Lists.{◌∈◌}
use Rattle.machine.specs.Walk.{Ruling, denies, gives, fall_to}
use Rattle.rules.specs.Needs.{lacks, operands_needed, Able}
use Rattle.demand.specs.Writing.{Met, Real, lacks_rights, leaves, splits, disagrees, underflows}
use Rattle.demand.specs.Chunk.{rule, judge, machine}
use Rattle.rules.specs.Script.{Script, tag_of}
use Rattle.demand.specs.Span.{Span}
use Rattle.demand.specs.Writing as writing
use Rattle.demand.proofs.Inside.{inside, outside}
use Rattle.machine.proofs.Laws.{Passes}
use Rattle.machine.proofs.Lists.{∉-nil, map_∈}
use Rattle.answer.proofs.Apart.{zero≢one}
use Rattle.machine.proofs.Paths as machine
use Rattle.machine.proofs.Paths.{leads, Reached, begins, follows, Good, Writing}
use Rattle.demand.proofs.Says.{fall, jump_to, jumps, Says, no_rights, no_operands, no_iterator, no_handler}
use Rattle.demand.proofs.Says.{no_next, goes, says, edges_given, falls_edge, plain_falls}
use Rattle.machine.proofs.Refusals as machine-refusals

module _ (S : Script) (span : Span) where
  -- where the rule lets an instruction pass, the instruction is able, what it gives is what stands just after it, and its
  -- edges are the definition's
  pub record Agrees (it : Item) (g : Passes (machine S span) it) : Type 0 where
    pub able : Able S it.place it.depths
    pub post : g.post ≡ (after S it.place it.depths).operands
    pub edges : (e : Item) → e ∈ machine.edges (machine S span) it ↔ e ∈ edges S it.place it.depths
    pub targets : (j : Item) → j ∈ g.jumps → j.place ∈ targets S it.place

  pub agrees : (it : Item) (g : Passes (machine S span) it) → Agrees it g
  agrees it g = go (says S span it.place it.depths)
    where
      p : ℕ
      p = it.place

      d : Depths
      d = it.depths

      go : Says S span p d (rule S span p d) → Agrees it g
      go (no_rights l e) = absurd (zero≢one (cc g.ruled))
      go (no_operands r l e) = absurd (zero≢one (cc g.ruled))
      go (no_iterator r n l e) = absurd (zero≢one (cc g.ruled))
      go (no_handler r n l e) = absurd (zero≢one (cc g.ruled))
      go (no_next able q l e) = absurd (zero≢one (cc g.ruled))
      go (goes able n e) = record {
        able = able;
        post = cc g.ruled;
        edges = λ x. (λ m. (given x).1 (rw same at m), λ m. rw same ((given x).0 m));
        targets = λ j m. let t = map_∈ (jump_to S span p d) (targets S p) (rw jumps_same at m) in rw (← t.2) t.1;
      }
        where
          jumps_same : g.jumps ≡ jumps S span p d
          jumps_same = cc g.ruled

          same : machine.edges (machine S span) it ≡ fall_to (next S p) (fall S span p d (falls (tag_of S p))) (jumps S span p d)
          same =
              let f : g.fall ≡ fall S span p d (falls (tag_of S p)) = cc g.ruled in
              machine.edges_are (machine S span) g ∙ rw (f, jumps_same)

          given : (x : Item) → x ∈ edges S p d ↔ x ∈ fall_to (next S p) (fall S span p d (falls (tag_of S p))) (jumps S span p d)
          given = edges_given S span p d

  -- an able instruction passes, unless it is plain and nothing follows it in the chunk
  pub passes : (it : Item) → Able S it.place it.depths → (plain (tag_of S it.place) ≡ true → next S it.place < span.end)
      → Passes (machine S span) it
  passes it able stays = go (says S span it.place it.depths)
    where
      go : Says S span it.place it.depths (rule S span it.place it.depths) → Passes (machine S span) it
      go (no_rights l e) = absurd (omega (arith, able.rights))
      go (no_operands r l e) = absurd (omega (arith, able.operands))
      go (no_iterator r n l e) = absurd (omega (arith, able.iterators))
      go (no_handler r n l e) = absurd (omega (arith, able.handlers))
      go (no_next a q l e) = absurd (omega (arith, stays q))
      go (goes a n e) = record { post = _; fall = _; jumps = _; ruled = e }

  -- ---- paths

  -- a path of the machine is a path of the chunk
  pub path_of : {it : Item} → Reached (machine S span) it → writing.Path S span it
  unfolding leads
  path_of (begins e) = rw e writing.enters
  path_of (follows {it} {e} r c m) = go (path_of r) (rule S span it.place it.depths) refl m
    where
      go : writing.Path S span it → (o : Ruling Refusal) → rule S span it.place it.depths ≡ o → e ∈ leads (next S it.place) o
          → writing.Path S span e
      go back (denies x) q k = absurd (∉-nil k)
      go back (gives post fall jumps) q k =
          let a = agrees it (record { post = post; fall = fall; jumps = jumps; ruled = q }) in
          writing.follows back (inside S span c) a.able ((a.edges e).0 m)

  -- ---- writings

  -- the depths written beside an accepted chunk's places are those that its paths bring
  pub written_reached : {height : ℕ} {A : ℕ → Option Depths} → Writing (machine S span) height A → {it : Item} → Reached (machine S span) it
      → A it.place ≡ some it.depths
  written_reached W (begins e) = rw e W.begun
  written_reached W (follows {it} {e} r c m) = (W.good it (written_reached W r)).borne e m

  -- so there a path of the chunk is a path of the machine
  pub reached_of : {height : ℕ} {A : ℕ → Option Depths} → Writing (machine S span) height A → {it : Item} → writing.Path S span it → Reached (machine S span) it
  reached_of W writing.enters = begins refl
  reached_of W (writing.follows {i} {e} r c able m) =
      let back = reached_of W r in
      let g = (W.good i (written_reached W back)).passes in
      follows back (outside S span c) (((agrees i g).edges e).1 m)

  pub writing_of : writing.Writing S span → (A : ℕ → Option Depths) × Writing (machine S span) span.declared A
  writing_of W = (W.written, record { begun = W.entry_zeros; good = λ it e. good it e })
    where
      good : (it : Item) → W.written it.place ≡ some it.depths → Good (machine S span) W.written span.declared it
      good it e = record {
        inside = outside S span (W.beside_starts it.place it.depths e);
        passes = g;
        borne = λ x m. W.edges_agree it.place it.depths e x (((agrees it g).edges x).0 m);
        low = W.height_at it.place it.depths e;
        low_after = rw (agrees it g).post (W.height_after it.place it.depths e);
      }
        where
          stays : plain (tag_of S it.place) ≡ true → next S it.place < span.end
          stays q =
              let edge = falls_edge S span it.place it.depths (plain_falls (tag_of S it.place) q) in
              (W.beside_starts _ _ (W.edges_agree it.place it.depths e _ edge)).before_end

          g : Passes (machine S span) it
          g = passes it (W.able it.place it.depths e) stays

  pub written_of : {A : ℕ → Option Depths} → Writing (machine S span) span.declared A → writing.Writing S span
  written_of {A} W = record {
    written = A;
    beside_starts = λ p d e. inside S span (good p d e).inside;
    entry_zeros = W.begun;
    edges_agree = λ p d e x m. (good p d e).borne x (((tied p d e).edges x).1 m);
    able = λ p d e. (tied p d e).able;
    height_at = λ p d e. (good p d e).low;
    height_after = λ p d e. rw (← (tied p d e).post) (good p d e).low_after;
  }
    where
      good : (p : ℕ) (d : Depths) → A p ≡ some d → Good (machine S span) A span.declared (record { place = p; depths = d })
      good p d e = W.good (record { place = p; depths = d }) e

      tied : (p : ℕ) (d : Depths) (e : A p ≡ some d) → Agrees (record { place = p; depths = d }) (good p d e).passes
      tied p d e = agrees (record { place = p; depths = d }) (good p d e).passes

  -- ---- refusals

  -- a jump that a test refuses leaves the chunk, or lands within an instruction
  bad_jump : {p t : ℕ} {d : Depths} {r : Refusal} → Met S span p d → Able S p d → t ∈ targets S p → judge S span p t ≡ some r → Real S span r
  unfolding judge
  bad_jump {p} {t} {d} {r} met able m e = go (ltb t span.entry) refl (leb span.end t) refl (among t (starts S.code)) refl e
    where
      go : (a : Bool) → ltb t span.entry ≡ a → (b : Bool) → leb span.end t ≡ b → (c : Bool) → among t (starts S.code) ≡ c
          → ◌≡◌ {A = Option Refusal} (cond (a || b) (some (JumpOutOfRange p t)) (cond c none (some (JumpIntoAnInstruction p t)))) (some r)
          → Real S span r
      go true qa b qb c qc e = let same : r ≡ JumpOutOfRange p t = cc in rw same (leaves met able m (inl (ltb-true t span.entry qa)))
      go false qa true qb c qc e = let same : r ≡ JumpOutOfRange p t = cc in rw same (leaves met able m (inr (leb-true span.end t qb)))
      go false qa false qb true qc e = absurd (zero≢one (cc))
      go false qa false qb false qc e =
          let same : r ≡ JumpIntoAnInstruction p t = cc in
          rw same (splits met able m (ltb-false t span.entry qa) (leb-false span.end t qb)
          (λ s. zero≢one (cc (member_among t (starts S.code) (start_listed width_of S.code t s)))))

  -- an instruction that the rule denies fails the test that the denial names
  denied : {p : ℕ} {d : Depths} {r : Refusal} → Met S span p d → rule S span p d ≡ denies r → Real S span r
  denied {p} {d} {r} met q = go (says S span p d)
    where
      go : Says S span p d (rule S span p d) → Real S span r
      go (no_rights l e) = let same : r ≡ MissingCaps p (lacks S p) = cc in rw same (lacks_rights met l)
      go (no_operands z l e) = let same : r ≡ Underflow p (operands_needed S p) d.operands = cc in rw same (underflows met z l)
      go (no_iterator z n l e) = let same : r ≡ IteratorUnderflow p = cc in rw same (writing.no_iterator met z n l)
      go (no_handler z n l e) = let same : r ≡ HandlerUnderflow p = cc in rw same (writing.no_handler met z n l)
      go (no_next able plainly l e) =
          let same : r ≡ FallsOffTheEnd = cc in
          let edge = falls_edge S span p d (plain_falls (tag_of S p) plainly) in
          rw same (writing.runs_off (writing.follows met.path met.inside able edge) l)
      go (goes able n e) = absurd (zero≢one (cc))

  pub real_of : {r : Refusal} → machine-refusals.Real (machine S span) r → Real S span r
  real_of (machine-refusals.runs_off q h) = writing.runs_off (path_of q) h
  real_of (machine-refusals.disagree c q s n) =
      disagrees (record { path = path_of q; inside = inside S span c }) (record { path = path_of s; inside = inside S span c }) n
  real_of (machine-refusals.is_barred c q e) = denied (record { path = path_of q; inside = inside S span c }) e
  real_of (machine-refusals.misses {it} c q g j m e) =
      let tied = agrees it g in
      bad_jump (record { path = path_of q; inside = inside S span c }) tied.able (tied.targets j m) e
