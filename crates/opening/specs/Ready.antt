-- What a script is that passed everything before the chunks, as far as a chunk looks at it. Document 01, "Order of the
-- tests": what stands before "chunks upward" there; "Flat pools and sizes": the limits of code, cases and ranges.
use Rattle.std.specs.Prelude.{List, ◌≡◌, ℕ, ◌≤◌, length}
use Rattle.code.specs.Layout.{among}
use Rattle.code.specs.Width.{width_of}
use Rattle.demand.specs.Span.{Span}
use Rattle.listing.specs.Listing.{stop_by}
use Rattle.listing.specs.Starts.{Start, starts}
use Rattle.marks.specs.Places.{Holds, bit_at, is_one}
use Rattle.pools.specs.Good.{ChainsWithin, SwitchesWithin}
use Rattle.pools.specs.Pools.{cases_in}
use Rattle.pools.specs.Sizes.{max_code, max_entries}
use Rattle.rules.specs.Script.{Script}
use Rattle.rules.specs.There.{NameThere, ChainThere, SwitchThere}

-- What listing a chunk builds on: every byte of the code belongs to an instruction, each switch that one names is there
-- with its spans in their tables, and none of the three is above its limit.
pub record Listable (code switches cases ranges : List ℕ) : Type 0 where
  pub decoded : stop_by width_of code 0 ≡ length code
  pub switch_there : (p : ℕ) → Start width_of code p → SwitchThere code switches cases ranges p
  pub small : length code ≤ max_code
  pub few_cases : cases_in cases ≤ max_entries
  pub few_ranges : length ranges ≤ max_entries

-- the span of a chunk
abbrev pub span_of : (entry end declared : ℕ) → Span
span_of entry end declared = record { entry = entry; end = end; declared = declared }

-- And what its walk builds on: whatever an instruction names is there, and the spans of each entry lie in their tables.
pub record Ready (S : Script) : Type 0 where
  pub listable : Listable S.code S.pools.switches S.pools.cases S.pools.ranges
  pub name_there : (p : ℕ) → Start width_of S.code p → NameThere S.code S.pools.names p
  pub chain_there : (p : ℕ) → Start width_of S.code p → ChainThere S.code S.pools.chains S.pools.steps p
  pub chains_within : ChainsWithin S.pools.chains S.pools.steps
  pub switches_within : SwitchesWithin S.pools.switches S.pools.cases S.pools.ranges

-- The marks hold the starts of the code, and nothing else.
abbrev pub Marked : List ℕ → List ℕ → Type 0
Marked marks code = Holds marks (starts code)

-- The same as a fact that a type can keep, since there is one proof of it at most: the bit of a place tells whether an
-- instruction starts there (`tells` and `marked` in proofs/Passed).
pub record Tells (marks code : List ℕ) : Type 0 where
  pub bit : (p : ℕ) → is_one (bit_at marks p) ≡ among p (starts code)
