-- What the checks before a walk establish of a chunk, for demand 3: "a chunk that passed every check before its walk is
-- accepted exactly when"; that its walk accepts it; and the same chunk with another height declared.
use Rattle.std.specs.Prelude.{true, ◌||◌, ◌≡◌, ℕ, ◌+◌, ◌*◌, ◌≤◌, ◌<◌, eqb, length}
use Rattle.code.specs.Layout.{among, index_at}
use Rattle.code.specs.Tags.{byte, CHAIN, SWITCH}
use Rattle.code.specs.Width.{width_of}
use Rattle.listing.specs.Listing.{stop_by}
use Rattle.listing.specs.Starts.{Start, starts}
use Rattle.pools.specs.Good.{ChainsWithin, SwitchesWithin}
use Rattle.pools.specs.Pools.{chains_in, switches_in}
use Rattle.rules.specs.Script.{Script, tag_of}
use Rattle.demand.specs.Chunk.{passes, walked}
use Rattle.demand.specs.Span.{Span, T, E}

-- where so many words of records and of work are lent: every byte of the code belongs to an instruction; each chain and
-- switch that an instruction names is there, and its spans lie in their tables; the chunk passed 7 and 8, and has its
-- room
pub record BeforeWalk (S : Script) (span : Span) (records work : ℕ) : Type 0 where
  pub decoded : stop_by width_of S.code 0 ≡ length S.code
  pub chain_there : (p : ℕ) → Start width_of S.code p → tag_of S p ≡ byte CHAIN
      → index_at S.code p < chains_in S.pools.chains
  pub switch_there : (p : ℕ) → Start width_of S.code p → tag_of S p ≡ byte SWITCH
      → index_at S.code p < switches_in S.pools.switches
  pub chains_within : ChainsWithin S.pools.chains S.pools.steps
  pub switches_within : SwitchesWithin S.pools.switches S.pools.cases S.pools.ranges
  pub in_order : span.entry ≤ span.end
  pub in_code : span.end ≤ length S.code
  pub aligned : among span.entry (starts S.code) || eqb span.entry (length S.code) ≡ true
  pub records_room : 4 * (1 + T S span) ≤ records
  pub work_room : 4 * (1 + E S span) ≤ work

-- a chunk is accepted by its walk, with its height and its two counts
pub record WalkAccepts (S : Script) (span : Span) : Type 0 where
  pub height : ℕ
  pub reached : ℕ
  pub taken : ℕ
  pub so : walked S span ≡ passes height reached taken

-- the same chunk with another height declared
abbrev pub redeclared : Span → ℕ → Span
redeclared span declared = record { entry = span.entry; end = span.end; declared = declared }
