-- The ways out of opening a chunk: refused by its span, refused for room, and ready.
use mathlib.Core.List.{List, ◌++◌, append_assoc}
use mathlib.Core.Option.{none, some}
use mathlib.Core.Path.{◌≡◌, refl, ap, ◌∙◌}
use Prim.Native.Nat.{ℕ, ◌+◌, ◌-◌, ◌≤◌}
use native.Mathlib.Omega.{arith}
use lib.ListN.{length, take, drop, replicate, replicate-append-replicate}
use lib.Seq.{length-take-le, take_at, drop_at}
use Rattle.order.specs.Order.{in_order, Ordered}
use Rattle.order.proofs.Laws.{no_longer}
use Rattle.answer.specs.Answer.{unless}
use Rattle.demand.specs.Chunk.{span_test, room_test, open_test}
use Rattle.answer.specs.declared.Refusal.{Refusal}
use Rattle.demand.specs.Span.{Span, InCode, chunk_starts, T, E}
use Rattle.rules.specs.Edges.{degree}
use Rattle.rules.specs.Script.{Script}
use Rattle.opening.specs.declared.Tally.{Tally}
use Rattle.opening.specs.Listing.{fronted, opening, keep_all, AllListed}
use Rattle.opening.specs.Opens.{KeysLaid, Refuses, Readies}
use Rattle.opening.specs.Records.{named, keys, laid}
use Rattle.opening.proofs.Fronts.{drop_zeros, length_fronted, cleared}
use Rattle.opening.proofs.Targets.{length_named, targets_below_edges, all_kept_named}
use Rattle.opening.proofs.Tests.{Fits, room_passed}

-- ---- the order

pub keys_laid : (count : ℕ) (records work : List ℕ) (r : ℕ) {sorted work' : List ℕ} → count ≤ length records → count ≤ length work
    → drop count records ≡ replicate (length records - count) 0 → work ≡ replicate (length work) 0
    → Ordered (take count records) work r sorted work' → KeysLaid count records work r (sorted ++ drop count records) work'
unfolding fronted
keys_laid count records work r {sorted} a b tail zero o = record {
  counted = o.count;
  in_front = rw (o.keys, tail, append_assoc, long, replicate-append-replicate, behind) refl;
  cleared = o.spare ∙ rw long (ap (λ (l : List ℕ). replicate count 0 ++ drop count l) zero ∙ rw (drop_zeros count (length work), replicate-append-replicate, all) refl);
}
  where
    long : length (take count records) ≡ count
    long = length-take-le count records a

    few : length (in_order (take count records)) ≤ count
    few = omega (arith, no_longer (take count records), long)

    behind : count - r + (length records - count) ≡ length records - length (in_order (take count records))
    behind = omega (arith, few, o.count)

    all : count + (length work - count) ≡ length work
    all = omega arith

-- ---- the ways out

module _ (S : Script) (span : Span) where
  pub refused_by_span : {answer : Refusal} (records work : List ℕ) → span_test S.code span.entry span.end ≡ some answer
      → records ≡ replicate (length records) 0 → work ≡ replicate (length work) 0 → Refuses S span (length records) (length work) answer records work
  unfolding open_test unless
  refused_by_span records work e r w = record { tested = rw e; records_cleared = r; work_cleared = w }

  module _ {lent : ℕ} {listed : Tally} {records : List ℕ}
      (A : AllListed S span.entry span.end lent listed records) where
    abbrev front : List ℕ
    front = keep_all S lent (opening lent span.entry) (chunk_starts S span)

    counts_targets : listed.targets ≡ T S span
    unfolding T
    counts_targets = A.targets_counted

    counts_edges : listed.edges ≡ E S span
    unfolding E degree
    counts_edges = A.edges_counted

    front_fits : length front ≤ lent
    front_fits = omega (arith, A.stored, A.within)

    long : length records ≡ lent
    long = ap length A.kept ∙ length_fronted lent front front_fits

    pub refused_for_room : {answer : Refusal} {records' : List ℕ} (work : List ℕ) → span_test S.code span.entry span.end ≡ none
        → room_test listed.targets listed.edges (length records) (length work) ≡ some answer
        → records' ≡ replicate listed.stored 0 ++ drop listed.stored records → work ≡ replicate (length work) 0
        → Refuses S span lent (length work) answer records' work
    unfolding open_test unless
    refused_for_room work p e c w = record {
      tested = rw p (rw (counts_targets, counts_edges, long) at e);
      records_cleared = c ∙ rw (A.stored, A.kept) (cleared lent front front_fits);
      work_cleared = w;
    }

    -- where both buffers have their room, all that is named is stored
    module _ (work : List ℕ) (e : room_test listed.targets listed.edges (length records) (length work) ≡ none) where
      room : Fits (T S span) (E S span) lent (length work)
      room = room_passed (T S span) (E S span) lent (length work) ((rw (counts_targets, counts_edges, long) at e))

      all_named : front ≡ named S span
      all_named = all_kept_named S span lent (omega (arith, room.records_fit))

      stored : listed.stored ≡ 1 + T S span
      stored = A.stored ∙ ap length all_named ∙ length_named S span

      pub stored_fit : listed.stored ≤ length records
      stored_fit = omega (arith, A.within, long)

      pub spare_fits : listed.stored ≤ length work
      spare_fits = omega (arith, stored, room.work_fits, targets_below_edges S span)

      pub zeros_behind : drop listed.stored records ≡ replicate (length records - listed.stored) 0
      unfolding fronted
      zeros_behind = rw (long, A.stored, A.kept) (drop_at front (replicate (lent - length front) 0) (length front) refl)

      taken : take listed.stored records ≡ named S span
      unfolding fronted
      taken = rw (A.stored, A.kept) (take_at front (replicate (lent - length front) 0) (length front) refl) ∙ all_named

      pub ready : {records' work' : List ℕ} (r : ℕ) → InCode S.code span.entry span.end → KeysLaid listed.stored records work r records' work'
          → Readies S span lent (length work) (record { entry = span.entry; end = span.end; base = listed.stored; keys = r }) records' work'
      unfolding keys laid fronted
      ready r i k = record {
        same_entry = refl;
        same_end = refl;
        all_named = stored;
        all_keys = k.counted ∙ rw taken refl;
        in_code = i;
        records_room = room.records_fit;
        work_room = room.work_fits;
        records_laid = k.in_front ∙ rw (taken, long) refl;
        work_cleared = k.cleared;
      }
