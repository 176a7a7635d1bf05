-- Which kinds the tests give: those before any store 1 to 3, those after it none of these and not 0, and neither
-- names a chunk; those of a chunk 3, 7 and 8, those of its walk 4 and 9 to 16, and their verdicts name the chunk.
use mathlib.Core.Bool.{Bool, true, false, cond}
use mathlib.Core.List.{List, [], ◌∷◌}
use mathlib.Core.Logic.{◌⊎◌, inl, inr}
use mathlib.Core.Option.{none, some}
use mathlib.Core.Path.{◌≡◌, refl, sym, subst}
use Prim.Native.Nat.{ℕ, ◌≤◌, ◌<◌}
use native.Mathlib.Omega.{arith}
use lib.Dec.{ltb, leb, eqb}
use lib.ListN.{length}
use Rattle.before.specs.Before.{Test, first, limits_test, tables_test, lent_test, rights_test, constants_test, function_test}
use Rattle.before.specs.Before.{width_test, indices_test, code_test, early_tests, late_tests}
use Rattle.before.proofs.Pass.{code_on, code_stop}
use Rattle.code.specs.Width.{width_of}
use Rattle.indices.specs.Indices as reference
use Rattle.indices.specs.declared.Sizes as counted
use Rattle.listing.proofs.Starts.{all_within}
use Rattle.listing.proofs.WalkLaws.{from_end}
use Rattle.pools.specs.declared.limits.Sizes.{Sizes}
use Rattle.pools.specs.Sizes.{first_exceeded}
use Rattle.pools.specs.Tables.{first_bad_table}
use Rattle.demand.specs.Writing.{Real, lacks_rights, leaves, splits, disagrees, underflows, runs_off, no_iterator}
use Rattle.demand.specs.Writing.{no_handler, Exceeds}
use Rattle.rules.specs.Rights.{lacking}
use Rattle.rules.specs.Script.{Script}
use Rattle.demand.specs.Span.{Span}
use Rattle.answer.proofs.Apart.{zero≢one}
use Rattle.answer.specs.Answer.{no_chunk, refused}
use Rattle.answer.specs.declared.Refusal.{Refusal}
use Rattle.answer.specs.declared.Refusal.TheVariants.{TooLarge, BadTable, NoRoom, MissingCaps, Undecodable, BadIndex}
use Rattle.verify.specs.Demand.{Shut, out_of_range, misaligned, few_records, little_work, OpeningKind, WalkKind}

-- P holds of whatever a test answers
pub record Gives (P : Refusal → Type 0) (t : Test) : Type 0 where
  pub gives : (a : Refusal) → t ≡ some a → P a

none_gives : (P : Refusal → Type 0) → Gives P none
none_gives P = record { gives = λ a e. absurd (zero≢one (cc)) }

some_gives : (P : Refusal → Type 0) {a : Refusal} → P a → Gives P (some a)
some_gives P {a} p = record { gives = λ b e. let same : a ≡ b = cc in subst P same p }

either : (P : Refusal → Type 0) (x : Bool) {a : Refusal} → P a → Gives P (cond x none (some a))
either P true p = none_gives P
either P false p = some_gives P p

other : (P : Refusal → Type 0) (x : Bool) {a : Refusal} → P a → {t : Test} → Gives P t → Gives P (cond x (some a) t)
other P true p g = some_gives P p
other P false p g = g

unless : (P : Refusal → Type 0) (x : Bool) (t : Test) → Gives P t → Gives P (cond x none t)
unless P true t g = none_gives P
unless P false t g = g

-- of the first that refuses
pair : (P : Refusal → Type 0) (t : Test) (ts : List Test) → Gives P t → Gives P (first ts) → Gives P (first (t ∷ ts))
unfolding first
pair P none ts g h = h
pair P (some a) ts g h = g

nothing : (P : Refusal → Type 0) → Gives P (first [])
unfolding first
nothing P = none_gives P

-- ---- before any store

abbrev Early : Refusal → Type 0
Early a = (0 < (refused no_chunk a).kind) × ((refused no_chunk a).kind ≤ 3) × ((refused no_chunk a).chunk ≡ no_chunk)

limit_kind : (a : ℕ) → Early (TooLarge a)
unfolding refused
limit_kind a = (omega arith, omega arith, refl)

table_kind : (a b : ℕ) → Early (BadTable a b)
unfolding refused
table_kind a b = (omega arith, omega arith, refl)

room_kind : (a b : ℕ) → Early (NoRoom a b)
unfolding refused
room_kind a b = (omega arith, omega arith, refl)

module _ (sizes : Sizes) (chains steps switches cases ranges : List ℕ) (marks heights : ℕ) where
  limits : Gives Early (limits_test sizes)
  unfolding limits_test
  limits = either Early (eqb (first_exceeded sizes).kind 0) (limit_kind (first_exceeded sizes).p)

  tables : Gives Early (tables_test chains steps switches cases ranges)
  unfolding tables_test
  tables =
      either Early (eqb (first_bad_table chains steps switches cases ranges).kind 0)
      (table_kind (first_bad_table chains steps switches cases ranges).p (first_bad_table chains steps switches cases ranges).q)

  room : (needed lent buffer : ℕ) → Gives Early (lent_test needed lent buffer)
  unfolding lent_test
  room needed lent buffer = other Early (ltb lent needed) (room_kind needed buffer) (none_gives Early)

  pub early_kind : {a : Refusal} → early_tests sizes chains steps switches cases ranges marks heights ≡ some a → Early a
  unfolding early_tests
  early_kind e = (pair Early _ _ limits (pair Early _ _ tables (pair Early _ _ (room _ _ _) (pair Early _ _ (room _ _ _) (nothing Early))))).gives _ e

-- ---- after it

abbrev Late : Refusal → Type 0
Late a = (3 < (refused no_chunk a).kind) × ((refused no_chunk a).chunk ≡ no_chunk)

caps_kind : (a b : ℕ) → Late (MissingCaps a b)
unfolding refused
caps_kind a b = (omega arith, refl)

index_kind : (a b c : ℕ) → Late (BadIndex a b c)
unfolding refused
index_kind a b c = (omega arith, refl)

decode_kind : (a : ℕ) → Late (Undecodable a)
unfolding refused
decode_kind a = (omega arith, refl)

rights_kind : (needed rights : ℕ) → Gives Late (rights_test needed rights)
unfolding rights_test
rights_kind needed rights = either Late (eqb (lacking needed rights) 0) (caps_kind 0 needed)

constants_kind : (rights : ℕ) (words : List ℕ) → Gives Late (constants_test rights words)
unfolding constants_test
constants_kind rights [] = none_gives Late
constants_kind rights (word ∷ words) = pair Late _ _ (rights_kind word rights) (pair Late _ _ (constants_kind rights words) (nothing Late))

function_kind : (functions rights : ℕ) → Gives Late (function_test functions rights)
unfolding function_test
function_kind functions rights = unless Late (eqb functions 0) _ (rights_kind 1 rights)

module _ (sizes : counted.Sizes) (records : reference.Tables) (code : List ℕ) where
  indices_kind : (at : ℕ) → Gives Late (indices_test sizes records code at)
  unfolding indices_test
  indices_kind at = let found = reference.first_bad_ref (reference.size_of sizes) (reference.refs records code at) in
      either Late (eqb found.kind 0) (index_kind at found.p found.q)

  width_kind : (at : ℕ) → Gives Late (width_test code at)
  unfolding width_test
  width_kind at = either Late (leb (length code) at) (decode_kind at)

  code_kind : (at : ℕ) → Gives Late (code_test sizes records code at)
  code_kind =
      from_end (all_within width_of code) (λ at. Gives Late (code_test sizes records code at))
      (λ at e. subst (Gives Late) (sym (code_stop sizes records code at e)) (width_kind at))
      (λ at h rest. subst (Gives Late) (sym (code_on sizes records code at h)) (pair Late _ _ (indices_kind at) (pair Late _ _ rest (nothing Late))))

  pub late_kind : (rights functions : ℕ) (constants : List ℕ) {a : Refusal} → late_tests rights functions constants sizes records code ≡ some a → Late a
  unfolding late_tests
  late_kind rights functions constants e =
      (pair Late _ _ (constants_kind rights constants) (pair Late _ _ (code_kind 0) (pair Late _ _ (function_kind functions rights) (nothing Late)))).gives _ e

-- ---- of a chunk

-- whatever its number, a verdict with this answer is of such a kind, and names the chunk
abbrev pub Tells : (Kind : ℕ → Type 0) → Refusal → Type 0
Tells Kind a = (number : ℕ) → Kind (refused number a).kind × ((refused number a).chunk ≡ number)

module _ (S : Script) (span : Span) where
  pub shut_kind : {records work : ℕ} {a : Refusal} → Shut S span records work a → Tells OpeningKind a
  unfolding refused
  shut_kind (out_of_range h) = λ n. (inr (omega arith, omega arith), refl)
  shut_kind (misaligned o i s e) = λ n. (inr (omega arith, omega arith), refl)
  shut_kind (few_records i h) = λ n. (inl refl, refl)
  shut_kind (little_work i r h) = λ n. (inl refl, refl)

  pub real_kind : {a : Refusal} → Real S span a ⊎ Exceeds S span a → Tells WalkKind a
  unfolding refused
  real_kind (inl r) = real r
    where
      real : {a : Refusal} → Real S span a → Tells WalkKind a
      real (lacks_rights m l) = λ n. (inl refl, refl)
      real (leaves m able t out) = λ n. (inr (omega arith, omega arith), refl)
      real (splits m able t from to none-starts) = λ n. (inr (omega arith, omega arith), refl)
      real (disagrees m k d) = λ n. (inr (omega arith, omega arith), refl)
      real (underflows m r l) = λ n. (inr (omega arith, omega arith), refl)
      real (runs_off p e) = λ n. (inr (omega arith, omega arith), refl)
      real (no_iterator m r o l) = λ n. (inr (omega arith, omega arith), refl)
      real (no_handler m r o l) = λ n. (inr (omega arith, omega arith), refl)
  real_kind (inr x) = rw x.answer (λ n. (inr (omega arith, omega arith), refl))

-- neither kind is 0, and none is both
pub opening_refuses : {kind : ℕ} → OpeningKind kind → 0 < kind
opening_refuses (inl e) = omega arith
opening_refuses (inr h) = omega arith

pub walk_refuses : {kind : ℕ} → WalkKind kind → 0 < kind
walk_refuses (inl e) = omega arith
walk_refuses (inr h) = omega arith

pub kinds_apart : {kind : ℕ} → OpeningKind kind → WalkKind kind → ⊥
kinds_apart (inl e) (inl f) = omega arith
kinds_apart (inl e) (inr g) = omega arith
kinds_apart (inr h) (inl f) = omega arith
kinds_apart (inr h) (inr g) = omega arith
