-- The spans of chunk records, one for each.
use mathlib.Core.List.{List, [], ◌∷◌}
use mathlib.Core.Path.{◌≡◌, refl, ap}
use Prim.Native.Nat.{ℕ, zero, suc, ◌<◌}
use native.Mathlib.Nat.{le_of_suc-le-suc, not-suc-le-zero}
use lib.ListN.{length, get_or}
use Rattle.demand.specs.Span.{chunk_at}
use Rattle.grain.specs.declared.Chunk.{Chunk}
use Rattle.grain.specs.Chunks.{chunk_span, spans_from}

-- what lies past the end of a list of chunks
abbrev pub no_chunk : Chunk
no_chunk = record { entry = 0; end = 0; max_stack = 0 }

pub spans_count : (chunks : List Chunk) → length (spans_from chunks) ≡ length chunks
unfolding spans_from
spans_count [] = refl
spans_count (c ∷ chunks) = ap suc (spans_count chunks)

pub span_there : (chunks : List Chunk) (k : ℕ) → k < length chunks → chunk_at (spans_from chunks) k ≡ chunk_span (get_or chunks k no_chunk)
unfolding spans_from
span_there [] k l = absurd (not-suc-le-zero l)
span_there (c ∷ chunks) zero l = refl
span_there (c ∷ chunks) (suc k) l = span_there chunks k (le_of_suc-le-suc l)
