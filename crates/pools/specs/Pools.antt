-- The lent tables as entries. Document 01, "Flat pools and sizes": "In 32-bit words. Chain: root (0 Local, 1 Named,
-- 2 This, 3 Temporary), name, operands, tail (0 Read, 1 Assign, 2 Assign with operator), operator, first step, steps.
-- Step: kind (0 Index, 1 Property, 2 Method), name, getter, setter. Switch: first case, cases, first range, ranges,
-- default. Case: target, constant. Range: target."
use Rattle.std.specs.Prelude.{List, [], ◌∷◌, ℕ, zero, suc, ◌+◌, ◌*◌, ◌/◌, length, get_or}

-- Everything that is lent but the code: a rights word for each constant, a flag for each name, how many tokens and
-- op-assignments there are, and five tables of words.
pub record Pools : Type 0 where
  pub constants : List ℕ
  pub names : List ℕ
  pub tokens : ℕ
  pub op_assignments : ℕ
  pub chains : List ℕ
  pub steps : List ℕ
  pub switches : List ℕ
  pub cases : List ℕ
  pub ranges : List ℕ

pub record Chain : Type 0 where
  pub root : ℕ
  pub name : ℕ
  pub operands : ℕ
  pub tail : ℕ
  pub operator : ℕ
  pub first_step : ℕ
  pub steps : ℕ

pub record Step : Type 0 where
  pub kind : ℕ
  pub name : ℕ
  pub getter : ℕ
  pub setter : ℕ

pub record Switch : Type 0 where
  pub first_case : ℕ
  pub cases : ℕ
  pub first_range : ℕ
  pub ranges : ℕ
  pub default : ℕ

pub record Case : Type 0 where
  pub target : ℕ
  pub constant : ℕ

-- how many words an entry has; a range is one word
abbrev pub chain_words : ℕ
chain_words = 7

abbrev pub step_words : ℕ
step_words = 4

abbrev pub switch_words : ℕ
switch_words = 5

abbrev pub case_words : ℕ
case_words = 2

-- how many whole entries of so many words there are
abbrev pub whole : ℕ → List ℕ → ℕ
whole size words = length words / size

-- how many whole entries a table has
abbrev pub chains_in : List ℕ → ℕ
chains_in chains = whole chain_words chains

abbrev pub steps_in : List ℕ → ℕ
steps_in steps = whole step_words steps

abbrev pub switches_in : List ℕ → ℕ
switches_in switches = whole switch_words switches

abbrev pub cases_in : List ℕ → ℕ
cases_in cases = whole case_words cases

-- the words of an entry
module _ (words : List ℕ) (i : ℕ) where
  unfoldable pub chain_at : Chain
  chain_at = record {
    root = get_or words (i * chain_words) 0;
    name = get_or words (i * chain_words + 1) 0;
    operands = get_or words (i * chain_words + 2) 0;
    tail = get_or words (i * chain_words + 3) 0;
    operator = get_or words (i * chain_words + 4) 0;
    first_step = get_or words (i * chain_words + 5) 0;
    steps = get_or words (i * chain_words + 6) 0;
  }

  unfoldable pub step_at : Step
  step_at = record {
    kind = get_or words (i * step_words) 0;
    name = get_or words (i * step_words + 1) 0;
    getter = get_or words (i * step_words + 2) 0;
    setter = get_or words (i * step_words + 3) 0;
  }

  unfoldable pub switch_at : Switch
  switch_at = record {
    first_case = get_or words (i * switch_words) 0;
    cases = get_or words (i * switch_words + 1) 0;
    first_range = get_or words (i * switch_words + 2) 0;
    ranges = get_or words (i * switch_words + 3) 0;
    default = get_or words (i * switch_words + 4) 0;
  }

  unfoldable pub case_at : Case
  case_at = record { target = get_or words (i * case_words) 0; constant = get_or words (i * case_words + 1) 0 }

-- the entries from a first one on, in table order
module _ {A : Type 0} (entry : ℕ → A) where
  unfoldable pub entries : (first count : ℕ) → List A
  entries first zero = []
  entries first (suc n) = entry first ∷ entries (first + 1) n

-- the steps of a chain, the cases of a switch, and the targets of its ranges, each from its table's words
abbrev pub steps_of : List ℕ → Chain → List Step
steps_of steps c = entries (step_at steps) c.first_step c.steps

abbrev pub cases_of : List ℕ → Switch → List Case
cases_of cases s = entries (case_at cases) s.first_case s.cases

abbrev pub ranges_of : List ℕ → Switch → List ℕ
ranges_of ranges s = entries (λ i. get_or ranges i 0) s.first_range s.ranges
