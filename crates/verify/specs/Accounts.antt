-- What a call answers for in terms of its chunks' paths: its heights as far as it comes, and, accepted, every chunk:
-- the customer's third demand of each. Document 01, "What comes back": "On acceptance: the instructions in the code,
-- [...]; reached and taken, summed over the chunks", and "heights hold a measured height for each chunk before the one
-- refused (all, if accepted), the others untouched". Nothing here knows how a chunk is judged.
use Rattle.std.specs.Prelude.{List, ◌≡◌, ℕ, zero, suc, ◌+◌, ◌≤◌, ◌<◌, length, get_or}
use Rattle.answer.specs.declared.verdict.Verdict.{Verdict}
use Rattle.demand.specs.Span.{Span, chunk_at}
use Rattle.demand.specs.Writing.{Writing, Measures}
use Rattle.listing.specs.Starts.{starts}
use Rattle.rules.specs.Script.{Script}

-- the sum of f i over the numbers i below n
unfoldable pub sum_below : (f : ℕ → ℕ) (n : ℕ) → ℕ
sum_below f zero = 0
sum_below f (suc n) = sum_below f n + f n

-- the chunks below a number are measured: each height is the largest depth on the chunk's paths, and these are its
-- counts
pub record Measured (S : Script) (spans : List Span) (n : ℕ) (heights : List ℕ) : Type 0 where
  pub reached_in : ℕ → ℕ
  pub taken_in : ℕ → ℕ
  pub by_paths : (i : ℕ) → i < n → Measures S (chunk_at spans i) (get_or heights i 0) (reached_in i) (taken_in i)

-- heights where the chunks below a number are measured and no other element is touched
pub record Filled (S : Script) (spans : List Span) (n : ℕ) (heights heights' : List ℕ) : Type 0 where
  pub measured : Measured S spans n heights'
  pub untouched : (i : ℕ) → n ≤ i → get_or heights' i 0 ≡ get_or heights i 0
  pub as_many : length heights' ≡ length heights

-- what an acceptance answers for
pub record Accounted (S : Script) (spans : List Span) (heights : List ℕ) (r : Verdict) : Type 0 where
  -- depths can be written beside the starts of each chunk
  pub written : (i : ℕ) → i < length spans → Writing S (chunk_at spans i)
  -- every chunk is measured
  pub measured : Measured S spans (length spans) heights
  -- the counts of the call
  pub instructions : r.instructions ≡ length (starts S.code)
  pub reached : r.reached ≡ sum_below measured.reached_in (length spans)
  pub taken : r.taken ≡ sum_below measured.taken_in (length spans)
