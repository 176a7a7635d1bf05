-- Leaving an instruction: the depths noted and the jumps pushed leave the words as falling through and taking back need them.
use mathlib.Core.List.{List}
use mathlib.Core.Path.{◌≡◌, ap}
use Prim.Native.Nat.{ℕ, ◌≤◌}
use native.Mathlib.Omega.{arith}
use lib.ListN.{length, take, length-map}
use Rattle.answer.specs.declared.Depths.{Depths}
use Rattle.words.specs.Stack.{Clear}
use Rattle.words.proofs.Items.{clear_put_all}
use Rattle.walk.specs.declared.Hand.{Hand}
use Rattle.opening.specs.declared.Room.{Room}
use Rattle.walk.specs.Leaving.{jumps_to, Pushed, noted}
use Rattle.walk.specs.Hand.{entered_hand}
use Rattle.walk.proofs.Turns.{noted_front}

-- noting depths leaves the keys as they were
pub keys_kept : (room : Room) (h : Hand) (records records₁ : List ℕ) → records₁ ≡ noted room h records → room.keys ≤ room.base
    → take room.keys records₁ ≡ take room.keys records
keys_kept room h records records₁ n k = rw n (noted_front room h records k)

-- above the items that wait once the jumps are pushed the words are clear
pub nothing_above : (h : Hand) (targets work work₁ : List ℕ) (d : Depths) (post waiting : ℕ) (in_hand : Hand)
    → Clear work h.waiting → Pushed targets d h.waiting work waiting work₁ → in_hand ≡ entered_hand h post waiting
    → Clear work₁ in_hand.waiting
nothing_above h targets work work₁ d post waiting in_hand clear P e =
    let above = clear_put_all (jumps_to d targets) work h.waiting clear in
    let count : length (jumps_to d targets) ≡ length targets =
    length-map targets (λ (t : ℕ). record { place = t; depths = d }) in
    let waits = ap (λ (i : Hand). i.waiting) e in
    rw P.pushed (record { clear = λ i l. above.clear i (omega (arith, waits, P.count, count)) })
