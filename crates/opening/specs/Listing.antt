-- The instructions of a chunk listed: T and E, and their targets kept in records while there is room. Document 01,
-- "Flat pools and sizes": "T is the targets named by instructions that start in the chunk, repeats counted, E their
-- outgoing edges".
use Rattle.std.specs.Prelude.{Bool, cond, List, [], ◌∷◌, ◌++◌, ◌≡◌, ℕ, ◌+◌, ◌-◌, ◌^◌, ◌≤◌, ◌<◌, leb, length, replicate}
use Rattle.std.proofs.lemmas.List.Edits.{sets}
use Rattle.code.specs.Width.{width_of}
use Rattle.listing.specs.Starts.{starts_before}
use Rattle.machine.specs.Lists.{sum_of}
use Rattle.rules.specs.Edges.{falls, targets}
use Rattle.rules.specs.Script.{Script, tag_of}
use Rattle.opening.specs.declared.Tally.{Tally}

-- do so many words more have room behind those that are kept?
abbrev pub room_for : (kept more words : ℕ) → Bool
room_for kept more words = leb (kept + more) words

-- one instruction, of so many targets: both counts grow, and its targets are stored behind the others where all of them
-- fit
module _ (targets : List ℕ) (fall : ℕ) (before : Tally) (records : List ℕ) where
  abbrev all_fit : Bool
  all_fit = room_for before.stored (length targets) (length records)

  pub record OneListed (r : Tally) (records' : List ℕ) : Type 0 where
    pub targets_counted : r.targets ≡ before.targets + length targets
    pub edges_counted : r.edges ≡ before.edges + (length targets + fall)
    pub stored : r.stored ≡ cond all_fit (before.stored + length targets) before.stored
    pub words : records' ≡ cond all_fit (sets records before.stored targets) records

-- so many words, these in front and zeros behind
unfoldable pub fronted : (words : ℕ) → List ℕ → List ℕ
fronted words front = front ++ replicate (words - length front) 0

-- before the first instruction: the entry, where there is a word for it
unfoldable pub opening : (words entry : ℕ) → List ℕ
opening words entry = cond (leb 1 words) (entry ∷ []) []

pub record EntryStored (entry words r : ℕ) (records' : List ℕ) : Type 0 where
  pub stored : r ≡ length (opening words entry)
  pub kept : records' ≡ fronted words (opening words entry)

module _ (S : Script) where
  -- 1 where control falls through the instruction at a place
  abbrev pub fall_at : ℕ → ℕ
  fall_at p = cond (falls (tag_of S p)) 1 0

  -- what is kept after the instructions at these places, in so many words
  unfoldable pub keep_all : (words : ℕ) → (kept : List ℕ) → List ℕ → List ℕ
  keep_all words kept [] = kept
  keep_all words kept (p ∷ ps) =
      keep_all words (cond (room_for (length kept) (length (targets S p)) words) (kept ++ targets S p) kept) ps

  -- all instructions from an entry to an end, and far fewer targets and edges than 64 bits can count
  pub record AllListed (entry end words : ℕ) (r : Tally) (records' : List ℕ) : Type 0 where
    pub targets_counted : r.targets ≡ sum_of (λ p. length (targets S p)) (starts_before width_of S.code end entry)
    pub edges_counted : r.edges ≡ sum_of (λ p. length (targets S p) + fall_at p) (starts_before width_of S.code end entry)
    pub stored : r.stored ≡ length (keep_all words (opening words entry) (starts_before width_of S.code end entry))
    pub kept : records' ≡ fronted words (keep_all words (opening words entry) (starts_before width_of S.code end entry))
    pub within : r.stored ≤ words
    pub few_targets : r.targets < 2 ^ 40
    pub few_edges : r.edges < 2 ^ 40
