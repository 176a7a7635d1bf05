-- A chunk's span in the code, what starts in it, and how many targets and edges that has. Document 01, "Modules":
-- "spans: entry, end, declared height"; "Flat pools and sizes": "T is the targets named by instructions that start in
-- the chunk, repeats counted, E their outgoing edges"; "Order of the tests": "7; 8 if the entry is neither a start nor
-- the code's length".
use Rattle.std.specs.Prelude.{List, true, ◌||◌, ◌≡◌, ℕ, ◌≤◌, ◌<◌, eqb, length, get_or}
use Rattle.code.specs.Layout.{among}
use Rattle.code.specs.Width.{width_of}
use Rattle.listing.specs.Starts.{Start, starts_before, starts}
use Rattle.machine.specs.Lists.{sum_of}
use Rattle.rules.specs.Edges.{targets, degree}
use Rattle.rules.specs.Script.{Script}

pub record Span : Type 0 where
  pub entry : ℕ
  pub end : ℕ
  pub declared : ℕ

-- the span of the chunk of a number; what it is where there is no such chunk is no matter
abbrev pub chunk_at : List Span → ℕ → Span
chunk_at spans i = get_or spans i (record { entry = 0; end = 0; declared = 0 })

-- an instruction starts at this place, and the place lies in the chunk
pub record InChunk (S : Script) (span : Span) (p : ℕ) : Type 0 where
  pub start : Start width_of S.code p
  pub from_entry : span.entry ≤ p
  pub before_end : p < span.end

-- a chunk's own tests, 7 and 8, passed: this holds exactly where `span_test` refuses nothing (`span_exactly` in
-- proofs/Tests)
pub record InCode (code : List ℕ) (entry end : ℕ) : Type 0 where
  pub in_order : entry ≤ end
  pub in_code : end ≤ length code
  pub aligned : among entry (starts code) || eqb entry (length code) ≡ true

-- the starts in a chunk, and T and E over them
module _ (S : Script) (span : Span) where
  abbrev pub chunk_starts : List ℕ
  chunk_starts = starts_before width_of S.code span.end span.entry

  unfoldable pub T : ℕ
  T = sum_of (λ p. length (targets S p)) chunk_starts

  unfoldable pub E : ℕ
  E = sum_of (degree S) chunk_starts
