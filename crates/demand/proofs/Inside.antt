-- The machine of a chunk that passed the checks before its walk: an instruction of the machine is an in-chunk start, and the
-- places go from start to start.
use mathlib.Core.Bool.{Bool, true, false, ◌&&◌, ◌||◌, cond}
use mathlib.Core.Logic.{◌↔◌}
use mathlib.Core.Option.{Option, none, some}
use mathlib.Core.Path.{◌≡◌, refl}
use Prim.Native.Nat.{ℕ, ◌≤◌, ◌<◌}
use native.Mathlib.Omega.{arith}
use borrow.Author.Tests.{leb-true, leb-false, ltb-false, le-leb, lt-leb, le-ltb, eqb-true}
use lib.Dec.{leb, ltb, eqb}
use lib.ListN.{length}
use Rattle.code.specs.Layout.{among}
use Rattle.code.specs.Width.{width_of}
use Rattle.code.proofs.Among.{among_member, member_among}
use Rattle.listing.specs.Starts.{starts}
use Rattle.listing.proofs.Starts.{listed_start, start_listed, start_wide, start_apart, start_next}
use Rattle.listing.proofs.Before.{start_before}
use Rattle.answer.specs.declared.Refusal.{Refusal}
use Rattle.answer.specs.declared.Refusal.TheVariants.{JumpOutOfRange, JumpIntoAnInstruction}
use Rattle.demand.specs.BeforeWalk.{BeforeWalk}
use Rattle.rules.specs.Edges.{next}
use Rattle.demand.specs.Span.{Span, chunk_starts}
use Rattle.machine.specs.Lists.{◌∈◌}
use Rattle.demand.specs.Chunk.{judge, machine}
use Rattle.rules.specs.Script.{Script}
use Rattle.demand.specs.Span as spans
use Rattle.machine.proofs.Laws.{InChunk}
use Rattle.answer.proofs.Apart.{zero≢one}

both_true : (a b : Bool) → a && b ≡ true → (a ≡ true) × (b ≡ true)
both_true true b e = (refl, e)
both_true false b e = absurd (zero≢one (cc))

module _ (S : Script) (span : Span) where
  -- an instruction of the machine is an in-chunk start, and the other way round
  pub inside : {p : ℕ} → InChunk (machine S span) p → spans.InChunk S span p
  inside {p} c =
      let t = both_true (leb span.entry p) (among p (starts S.code)) c.starts in
      record { start = listed_start width_of S.code p (among_member p (starts S.code) t.1); from_entry = leb-true span.entry p t.0; before_end = c.below }

  pub outside : {p : ℕ} → spans.InChunk S span p → InChunk (machine S span) p
  outside {p} c = record { below = c.before_end; starts = rw (le-leb span.entry p c.from_entry) (member_among p (starts S.code) (start_listed width_of S.code p c.start)) }

  -- a jump passes its tests exactly at an in-chunk start
  pub judged : (p t : ℕ) → judge S span p t ≡ none ↔ InChunk (machine S span) t
  unfolding judge
  judged p t = (to (ltb t span.entry) refl (leb span.end t) refl (among t (starts S.code)) refl, back)
    where
      to : (a : Bool) → ltb t span.entry ≡ a → (b : Bool) → leb span.end t ≡ b → (d : Bool) → among t (starts S.code) ≡ d
          → ◌≡◌ {A = Option Refusal} (cond (a || b) (some (JumpOutOfRange p t)) (cond d none (some (JumpIntoAnInstruction p t)))) none
          → InChunk (machine S span) t
      to true qa b qb d qd e = absurd (zero≢one (cc))
      to false qa true qb d qd e = absurd (zero≢one (cc))
      to false qa false qb false qd e = absurd (zero≢one (cc))
      to false qa false qb true qd e =
          let low = ltb-false t span.entry qa in
          record { below = leb-false span.end t qb; starts = rw (le-leb span.entry t low) qd }

      back : InChunk (machine S span) t → judge S span p t ≡ none
      back c =
          let i = inside c in
          rw (
            le-ltb t span.entry i.from_entry,
            lt-leb span.end t i.before_end,
            member_among t (starts S.code) (start_listed width_of S.code t i.start),
          )

  module _ {records work : ℕ} (B : BeforeWalk S span records work) where
    pub entry_starts : span.entry < span.end → InChunk (machine S span) span.entry
    entry_starts h =
        record { below = h; starts = rw (le-leb span.entry span.entry (omega arith)) (go (among span.entry (starts S.code)) refl (eqb span.entry (length S.code)) refl B.aligned) }
      where
        go : (a : Bool) → among span.entry (starts S.code) ≡ a → (b : Bool) → eqb span.entry (length S.code) ≡ b → a || b ≡ true
            → among span.entry (starts S.code) ≡ true
        go true qa b qb e = qa
        go false qa true qb e = absurd (omega (arith, eqb-true span.entry (length S.code) qb, B.in_code))
        go false qa false qb e = absurd (zero≢one (cc))

    pub next_above : {p : ℕ} → InChunk (machine S span) p → p < next S p
    unfolding next
    next_above c = omega (arith, start_wide width_of S.code (inside c).start)

    pub next_least : {p q : ℕ} → InChunk (machine S span) p → InChunk (machine S span) q → p < q → next S p ≤ q
    unfolding next
    next_least c d h = start_apart width_of S.code (inside c).start (inside d).start h

    pub next_starts : {p : ℕ} → InChunk (machine S span) p → next S p < span.end → InChunk (machine S span) (next S p)
    unfolding next
    next_starts {p} c h =
        outside (record { start = start_next width_of S.code i.start (λ e. omega (arith, B.decoded, B.in_code)); from_entry = omega (arith, i.from_entry); before_end = h })
      where
        i : spans.InChunk S span p
        i = inside c

    pub listed : {p : ℕ} → InChunk (machine S span) p → p ∈ chunk_starts S span
    listed c =
        let i = inside c in
        let e = entry_starts (omega (arith, i.from_entry, i.before_end)) in
        start_before width_of S.code span.end (inside e).start i.start i.from_entry i.before_end
