-- Spans from three flat lists, for callers in Rattle. Document 01, "Flat pools and sizes": "Chunk spans come as a lent
-- list of records: entry, end, declared height".
use Rattle.std.specs.Prelude.{List, [], ◌∷◌, ℕ}
use Rattle.demand.specs.Span.{Span}

-- flat spans: as many as the shortest of the three lists has
unfoldable pub spans_of : (entries ends declared : List ℕ) → List Span
spans_of [] ends declared = []
spans_of (entry ∷ entries) [] declared = []
spans_of (entry ∷ entries) (end ∷ ends) [] = []
spans_of (entry ∷ entries) (end ∷ ends) (height ∷ declared) =
    record { entry = entry; end = end; declared = height } ∷ spans_of entries ends declared
