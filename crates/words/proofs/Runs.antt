-- A run of stores: the words that are stored stand there, and no other word changes.
use mathlib.Core.List.{List, [], ◌∷◌}
use mathlib.Core.Path.{◌≡◌, refl, ◌∙◌}
use Prim.Native.Nat.{ℕ, zero, suc, ◌+◌, ◌≤◌, ◌<◌}
use native.Mathlib.Omega.{arith}
use lib.ListN.{length, get_or, set, length-set}
use lib.Seq.{sets, get_or-set_same, get_or-set_other}

pub run_below : (vs words : List ℕ) (i j : ℕ) → j < i → get_or (sets words i vs) j 0 ≡ get_or words j 0
run_below [] words i j h = refl
run_below (v ∷ vs) words i j h =
    run_below vs (set words i v) (suc i) j (omega arith) ∙ get_or-set_other words i j v 0 (λ e. omega arith)

pub run_above : (vs words : List ℕ) (i j : ℕ) → i + length vs ≤ j → get_or (sets words i vs) j 0 ≡ get_or words j 0
run_above [] words i j h = refl
run_above (v ∷ vs) words i j h =
    run_above vs (set words i v) (suc i) j (omega arith) ∙ get_or-set_other words i j v 0 (λ e. omega arith)

pub run_there : (vs words : List ℕ) (i k : ℕ) → k < length vs → i + length vs ≤ length words
    → get_or (sets words i vs) (i + k) 0 ≡ get_or vs k 0
run_there [] words i k h room = absurd (omega arith)
run_there (v ∷ vs) words i zero h room =
    let same : i + 0 ≡ i = omega arith in
    rw same (run_below vs (set words i v) (suc i) i (omega arith) ∙ get_or-set_same words i v 0 (omega arith))
run_there (v ∷ vs) words i (suc k) h room =
    let shift : i + suc k ≡ suc i + k = omega arith in
    rw shift (run_there vs (set words i v) (suc i) k (omega arith) (omega (arith, length-set words i v)))
