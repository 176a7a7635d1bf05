-- What an instruction does to the operands. Document 01, "Tags": "Needs/pops/pushes", a row for each that it gives.
use Rattle.std.specs.Prelude.{cond, List, [], ◌∷◌, ◌++◌, ℕ, ◌+◌, ◌*◌, eqb}
use Rattle.code.specs.Tags.{Row, ◌for◌, among, look_up}
use Rattle.code.specs.Layout.{tag_at, count_at, index_at}
use Rattle.code.specs.Tags.{UNIT, FALSE, TRUE, POP, RETURN, THROW, ITER_INIT, INTERPOLATE_START, INTERPOLATE_APPEND}
use Rattle.code.specs.Tags.{INTERPOLATE_END, IS_SHARED, MAKE_FN_PTR, ROTATE, CURRY, MAKE_CLOSURE, CHAIN, MAKE_ARRAY}
use Rattle.code.specs.Tags.{MAKE_MAP, SWITCH, IMPORT, CALL, SKIP_IF_NOT_UNIT, CALL_OP, loads, stores, declares, assigns}
use Rattle.code.specs.Tags.{byte, jump_ifs, checks, call_refs, call_fn_ptrs, iter_nexts}
use Rattle.pools.specs.Pools.{chain_at}

-- an amount: so many, so many for each of the count n, and so many for each of the chain's operands k
pub record Amount : Type 0 where
  pub fixed : ℕ
  pub per_n : ℕ
  pub per_k : ℕ

abbrev pub just : ℕ → Amount
just a = record { fixed = a; per_n = 0; per_k = 0 }

abbrev pub n : Amount
n = record { fixed = 0; per_n = 1; per_k = 0 }

abbrev pub n+1 : Amount
n+1 = record { fixed = 1; per_n = 1; per_k = 0 }

abbrev pub 2n : Amount
2n = record { fixed = 0; per_n = 2; per_k = 0 }

abbrev pub k : Amount
k = record { fixed = 0; per_n = 0; per_k = 1 }

pub record TagEffect : Type 0 where
  pub needs : Amount
  pub pops : Amount
  pub pushes : ℕ

infix 20 ◌/◌/◌
abbrev pub ◌/◌/◌ : Amount → Amount → ℕ → TagEffect
needs / pops / pushes = record { needs = needs; pops = pops; pushes = pushes }

abbrev pub effects : List (Row TagEffect)
effects =
    (just 0 / just 0 / 1 for UNIT ∷ FALSE ∷ TRUE ∷ loads ++ MAKE_CLOSURE ∷ INTERPOLATE_START ∷ iter_nexts)
    ∷ (just 1 / just 1 / 0 for POP ∷ stores ++ declares ++ assigns ++ IMPORT ∷ RETURN ∷ THROW ∷ SWITCH ∷ ITER_INIT ∷
    jump_ifs)
    ∷ (just 1 / just 1 / 1 for IS_SHARED ∷ MAKE_FN_PTR ∷ INTERPOLATE_END ∷ [])
    ∷ (just 2 / just 1 / 0 for INTERPOLATE_APPEND ∷ [])
    ∷ (just 1 / just 0 / 0 for SKIP_IF_NOT_UNIT ∷ checks)
    ∷ (n / just 0 / 0 for ROTATE ∷ [])
    ∷ (n / n / 1 for CALL ∷ CALL_OP ∷ call_refs ++ MAKE_ARRAY ∷ [])
    ∷ (n+1 / n+1 / 1 for CURRY ∷ call_fn_ptrs)
    ∷ (2n / 2n / 1 for MAKE_MAP ∷ [])
    ∷ (k / k / 1 for CHAIN ∷ [])
    ∷ []

-- all others 0/0/0
unfoldable pub effect : ℕ → TagEffect
unfolding look_up among
effect tag = look_up effects (just 0 / just 0 / 0) tag

-- of the instruction at a place: the operands of the chain that it names, and the three numbers of its effect
module _ (code chains : List ℕ) (p : ℕ) where
  unfoldable pub operands_of : ℕ
  operands_of = cond (eqb (tag_at code p) (byte CHAIN)) (chain_at chains (index_at code p)).operands 0

  abbrev pub amount : Amount → ℕ
  amount a = a.fixed + a.per_n * count_at code p + a.per_k * operands_of

  unfoldable pub needs : ℕ
  needs = amount (effect (tag_at code p)).needs

  unfoldable pub pops : ℕ
  pops = amount (effect (tag_at code p)).pops

  unfoldable pub pushes : ℕ
  pushes = (effect (tag_at code p)).pushes
