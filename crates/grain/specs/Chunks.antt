-- The spans of a lent list of chunk records. Document 01, "Flat pools and sizes": "Chunk spans come as a lent list of
-- records: entry, end, declared height (u16)."
use Rattle.std.specs.Prelude.{List, [], ◌∷◌}
use Rattle.demand.specs.Span.{Span}
use Rattle.grain.specs.declared.Chunk.{Chunk}

-- of one record
abbrev pub chunk_span : Chunk → Span
chunk_span chunk = record { entry = chunk.entry; end = chunk.end; declared = chunk.max_stack }

-- one for each, in their order
unfoldable pub spans_from : List Chunk → List Span
spans_from [] = []
spans_from (chunk ∷ chunks) = chunk_span chunk ∷ spans_from chunks
