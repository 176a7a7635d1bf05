-- A chunk's instructions listed one after the other: what is kept so far, and that the instructions still to come lead from it
-- to the same end as all of them lead from the entry.
use mathlib.Core.Bool.{Bool, true, false, ◌||◌, cond}
use mathlib.Core.List.{List, [], ◌∷◌}
use mathlib.Core.Path.{◌≡◌, refl, sym, ap, ◌∙◌}
use Prim.Native.Nat.{ℕ, ◌+◌, ◌*◌, ◌≤◌, ◌<◌}
use native.Mathlib.Omega.{arith}
use borrow.Author.Tests.{lt-ltb, le-ltb, eqb-true}
use lib.Dec.{eqb}
use lib.ListN.{length}
use Rattle.code.specs.Layout.{among, tag_at, index_at}
use Rattle.code.specs.Tags.{byte, bytes, SWITCH}
use Rattle.code.specs.Width.{width_of, width_at}
use Rattle.code.proofs.Among.{among_member}
use Rattle.code.proofs.Widths.{width_there}
use Rattle.listing.specs.Starts.{Start, starts, starts_before}
use Rattle.listing.proofs.Before.{before_on, before_stop, cut}
use Rattle.listing.proofs.Starts.{listed_start, start_wide, start_next}
use Rattle.pools.specs.Pools.{switch_at}
use Rattle.pools.specs.Sizes.{max_code}
use Rattle.pools.specs.Good.{max_targets}
use Rattle.pools.proofs.Most.{room_small}
use Rattle.rules.specs.Edges.{jumping, arms_of, targets, targets_of, falls}
use Rattle.rules.specs.Script.{Script}
use Rattle.machine.specs.Lists.{sum_of}
use Rattle.rules.proofs.Arms.{arms_length}
use Rattle.answer.proofs.Apart.{zero≢one}
use Rattle.rules.proofs.Targets.{length_cond}
use Rattle.opening.specs.declared.Tally.{Tally}
use Rattle.opening.specs.Listing.{fall_at, OneListed, fronted, opening, EntryStored, keep_all, AllListed}
use Rattle.opening.specs.Ready.{Listable}
use Rattle.demand.specs.Span.{InCode}
use Rattle.opening.proofs.Fronts.{length_fronted, length_opening, behind, behind_length, behind_fits}
use Rattle.opening.proofs.Fronts.{behind_words}
use Rattle.opening.proofs.Storing.{at_most_one}

pub opened_length : {entry words stored : ℕ} {records : List ℕ} → EntryStored entry words stored records → length records ≡ words
opened_length {entry} {words} o = ap length o.kept ∙ length_fronted words (opening words entry) (length_opening words entry)

module _ (S : Script) where
  -- the instructions from a place on that start before an end
  abbrev pub from : (end at : ℕ) → List ℕ
  from end at = starts_before width_of S.code end at

  -- T and E over some of them
  abbrev pub targets_in : List ℕ → ℕ
  targets_in ps = sum_of (λ p. length (targets S p)) ps

  abbrev pub edges_in : List ℕ → ℕ
  edges_in ps = sum_of (λ p. length (targets S p) + fall_at S p) ps

  module _ (entry end words : ℕ) where
    -- up to a place. The last two keep the sums far below 2^64: an instruction has at least a byte.
    pub record Kept (records : List ℕ) (listed : Tally) (at : ℕ) : Type 0 where
      pub front : List ℕ
      pub holds : records ≡ fronted words front
      pub stored : listed.stored ≡ length front
      pub fits : length front ≤ words
      pub rest : keep_all S words front (from end at) ≡ keep_all S words (opening words entry) (from end entry)
      pub targets : listed.targets + targets_in (from end at) ≡ targets_in (from end entry)
      pub edges : listed.edges + edges_in (from end at) ≡ edges_in (from end entry)
      pub on_start : at < end → Start width_of S.code at
      pub in_code : at ≤ length S.code
      pub few_targets : listed.targets ≤ at * max_targets
      pub few_edges : listed.edges ≤ at * (max_targets + 1)

    pub kept_length : {records : List ℕ} {listed : Tally} {at : ℕ} → Kept records listed at → length records ≡ words
    kept_length k = ap length k.holds ∙ length_fronted words k.front k.fits

    pub all_kept : {lent : ℕ} {records : List ℕ} {listed : Tally} {at : ℕ} → length S.code ≤ max_code → words ≡ lent
        → Kept records listed at → end ≤ at → AllListed S entry end lent listed records
    unfolding sum_of keep_all
    all_kept {at = at} small same k h = rw (← same) (record {
      targets_counted = omega (arith, (rw none at k.targets));
      edges_counted = omega (arith, (rw none at k.edges));
      stored = k.stored ∙ ap length done;
      kept = k.holds ∙ ap (fronted words) done;
      within = omega (arith, k.stored, k.fits);
      few_targets = omega (arith, k.few_targets, k.in_code, room_small);
      few_edges = omega (arith, k.few_edges, k.in_code, room_small);
    })
      where
        none : from end at ≡ []
        none = before_stop width_of S.code end at (rw (le-ltb at end h) refl)

        done : k.front ≡ keep_all S words (opening words entry) (from end entry)
        done = (rw none at k.rest)

  module _ (L : Listable S.code S.pools.switches S.pools.cases S.pools.ranges) where
    pub few_targets : {p : ℕ} → Start width_of S.code p → length (targets S p) ≤ max_targets
    unfolding targets_of
    few_targets {p} s = rw length_cond (go (among (tag_at S.code p) (bytes jumping)) (eqb (tag_at S.code p) (byte SWITCH)) refl)
      where
        arms : List ℕ
        arms = arms_of S.pools.cases S.pools.ranges (switch_at S.pools.switches (index_at S.code p))

        few_arms : tag_at S.code p ≡ byte SWITCH → length arms ≤ max_targets
        few_arms e =
            let w = (L.switch_there p s).switch e in
            omega (arith, arms_length S.pools.cases S.pools.ranges (switch_at S.pools.switches (index_at S.code p)), w.cases_within, w.ranges_within, L.few_cases, L.few_ranges)

        go : (a b : Bool) → eqb (tag_at S.code p) (byte SWITCH) ≡ b → cond a 1 (cond b (length arms) 0) ≤ max_targets
        go true b e = omega arith
        go false true e = few_arms (eqb-true (tag_at S.code p) (byte SWITCH) e)
        go false false e = omega arith

    module _ {entry end : ℕ} (I : InCode S.code entry end) where
      -- before the first instruction
      pub entry_start : entry < end → Start width_of S.code entry
      entry_start h = go (among entry (starts S.code)) refl (eqb entry (length S.code)) refl I.aligned
        where
          go : (a : Bool) → among entry (starts S.code) ≡ a → (b : Bool) → eqb entry (length S.code) ≡ b → a || b ≡ true → Start width_of S.code entry
          go true qa b qb e = listed_start width_of S.code entry (among_member entry (starts S.code) qa)
          go false qa true qb e = absurd (omega (arith, eqb-true entry (length S.code) qb, I.in_code))
          go false qa false qb e = absurd (zero≢one (cc))

      pub first_kept : (words stored : ℕ) {records : List ℕ} → EntryStored entry words stored records
          → Kept entry end (length records) records (record { targets = 0; edges = 0; stored = stored }) entry
      first_kept words stored o = rw (opened_length o) (record {
        front = opening words entry;
        holds = o.kept;
        stored = o.stored;
        fits = length_opening words entry;
        rest = refl;
        targets = omega arith;
        edges = omega arith;
        on_start = entry_start;
        in_code = omega (arith, I.in_order, I.in_code);
        few_targets = omega arith;
        few_edges = omega arith;
      })

      -- after one instruction more
      pub next_kept : (words w : ℕ) {records records' : List ℕ} {listed r : Tally} {at : ℕ} → Kept entry end words records listed at → at < end
          → OneListed (targets S at) (fall_at S at) listed records r records'
          → w ≡ width_at S.code at → Kept entry end words records' r (at + w)
      unfolding sum_of keep_all
      next_kept words w {records} {records'} {listed} {r} {at} k h o width = record {
        front = behind words k.front ts;
        holds = o.words ∙ rw (k.stored, long, k.holds) (behind_words words k.front ts);
        stored = o.stored ∙ rw (k.stored, long) (sym (behind_length words k.front ts));
        fits = behind_fits words k.front ts k.fits;
        rest = (rw on at k.rest);
        targets = omega (arith, (rw on at k.targets), o.targets_counted);
        edges = omega (arith, (rw on at k.edges), o.edges_counted);
        on_start = λ l. rw width (start_next width_of S.code s (λ q. omega (arith, L.decoded, I.in_code, width)));
        in_code = omega (arith, width, (width_there width_of S.code at wide).within);
        few_targets = omega (arith, o.targets_counted, k.few_targets, few_targets s, wide, width);
        few_edges = omega (arith, o.edges_counted, k.few_edges, few_targets s, wide, width, at_most_one (falls (tag_at S.code at)));
      }
        where
          ts : List ℕ
          ts = targets S at

          s : Start width_of S.code at
          s = k.on_start h

          wide : 0 < width_at S.code at
          wide = start_wide width_of S.code s

          long : length records ≡ words
          long = kept_length entry end words k

          uncut : cut width_of S.code end at ≡ w
          uncut = rw (lt-ltb at end h) (sym width)

          on : from end at ≡ at ∷ from end (at + w)
          on = before_on width_of S.code end at (omega (arith, uncut, width, wide)) ∙ ap (λ (v : ℕ). at ∷ from end (at + v)) uncut
