-- Taking one item, over any store: it was seen before, or it enters an instruction, or it is refused for one of four reasons.
use mathlib.Core.Path.{◌≡◌, refl, sym, ◌∙◌}
use mathlib.Core.Bool.{Bool, true, false}
use mathlib.Core.List.{List, [], ◌∷◌}
use mathlib.Core.Logic.{◌⊎◌, inl, inr}
use mathlib.Core.Option.{Option, none, some}
use Prim.Native.Nat.{ℕ, ◌≤◌, ◌<◌}
use lib.Dec.{ltb}
use borrow.Author.Tests.{ltb-true, ltb-false, lt-ltb, le-ltb}
use Rattle.machine.specs.Lists.{◌∈◌, here, there}
use Rattle.answer.specs.Depths.{agree, Item}
use Rattle.answer.specs.declared.Depths.{Depths}
use Rattle.machine.specs.Walk.{Ruling, denies, gives, Machine, Store, Book, dropped, entered, Turn, goes_on}
use Rattle.machine.specs.Walk.{stops, first_bad_jump, seen, turn}
use Rattle.answer.proofs.Apart.{zero≢one}
use Rattle.machine.proofs.Lists.{∈-cases}
use Rattle.machine.proofs.Agree.{agree_refl, agree_true, agree_false}
use Rattle.machine.proofs.Laws.{Passes}
use Rattle.machine.proofs.Waiting.{waiting}

-- ---- the first bad jump

module _ {R : Type 0} (test : ℕ → Option R) where
  pub bad_here : (j : Item) (js : List Item) {r : R} → test j.place ≡ some r → first_bad_jump test (j ∷ js) ≡ some r
  unfolding first_bad_jump
  bad_here j js e = rw (e, first_bad_jump)

  pub bad_later : (j : Item) (js : List Item) → test j.place ≡ none → first_bad_jump test (j ∷ js) ≡ first_bad_jump test js
  unfolding first_bad_jump
  bad_later j js e = rw (e, first_bad_jump)

  -- Where there is none, each jump passes the test;
  pub bad_none : {j : Item} (js : List Item) → first_bad_jump test js ≡ none → j ∈ js → test j.place ≡ none
  bad_none {j = j} [] e m = elim m [ ]
  bad_none {j} (k ∷ js) e m = go (test k.place) refl (∈-cases m) (bad_none js)
    where
      go : (o : Option R)
          → test k.place ≡ o
          → (j ≡ k) ⊎ (j ∈ js)
          → (first_bad_jump test js ≡ none → j ∈ js → test j.place ≡ none)
          → test j.place ≡ none
      go none q (inl h) ih = rw h q
      go none q (inr h) ih = ih (sym (bad_later k js q) ∙ e) h
      go (some r) q h ih = absurd (zero≢one (cc (bad_here k js q)))

  -- and otherwise it is one of the jumps.
  pub bad_some : {r : R} (js : List Item) → first_bad_jump test js ≡ some r → (j : Item) × (j ∈ js) × (test j.place ≡ some r)
  unfolding first_bad_jump
  bad_some [] e = absurd (zero≢one (cc))
  bad_some {r} (k ∷ js) e = go (test k.place) refl (bad_some js)
    where
      go : (o : Option R)
          → test k.place ≡ o
          → (first_bad_jump test js ≡ some r → (j : Item) × (j ∈ js) × (test j.place ≡ some r))
          → (j : Item) × (j ∈ (k ∷ js)) × (test j.place ≡ some r)
      go none q ih = let b = ih (sym (bad_later k js q) ∙ e) in (b.0, there b.1, b.2)
      go (some s) q ih = (k, here refl, q ∙ sym (bad_here k js q) ∙ e)

module _ {R S : Type 0} (M : Machine R) (K : Store S) where
  -- ---- what was seen

  pub seen_named : {p : ℕ} (s : S) → M.named p ≡ true → seen M K p s ≡ K.recall p s
  unfolding seen
  seen_named s e = rw (e, seen)

  pub seen_other : {p : ℕ} (s : S) → M.named p ≡ false → seen M K p s ≡ none
  unfolding seen
  seen_other s e = rw (e, seen)

  -- ---- the ways to take an item

  -- It was seen before, with these depths.
  pub record Again (it : Item) (b : Book S) : Type 0 where
    pub below : it.place < M.end
    pub found : seen M K it.place b.store ≡ some it.depths

  -- It was not seen before,
  pub record New (it : Item) (b : Book S) : Type 0 where
    pub below : it.place < M.end
    pub unseen : seen M K it.place b.store ≡ none

  -- and the rule and the tests of its jumps let it through.
  pub record Enters (it : Item) (b : Book S) : Type 0 where
    pub new : New it b
    pub passes : Passes M it
    pub judged : first_bad_jump (M.judge it.place) passes.jumps ≡ none

  pub data Refuses (it : Item) (b : Book S) : R → Type 0 where
    is_off : M.end ≤ it.place → Refuses it b M.off
    clashes : {d : Depths}
        → it.place < M.end
        → seen M K it.place b.store ≡ some d
        → ¬ (d ≡ it.depths)
        → Refuses it b (M.clash it.place d it.depths)
    is_denied : {r : R} → New it b → M.rule it.place it.depths ≡ denies r → Refuses it b r
    jumps_badly : {r : R} → New it b → (g : Passes M it) → first_bad_jump (M.judge it.place) g.jumps ≡ some r → Refuses it b r

  pub data Taken (it : Item) (w : List Item) (b : Book S) : Turn R S → Type 0 where
    again : Again it b → Taken it w b (goes_on w (dropped b))
    enters : (f : Enters it b) → Taken it w b (goes_on (waiting M it f.passes w) (entered K it f.passes.post b))
    refuses : {r : R} → Refuses it b r → Taken it w b (stops r)

  module _ (it : Item) (w : List Item) (b : Book S) where
    -- What is known of an item decides its turn,
    pub turn_is : {t : Turn R S} → Taken it w b t → turn M K it w b ≡ t
    unfolding turn
    turn_is (again a) = rw (lt-ltb it.place M.end a.below, turn, a.found, agree_refl it.depths)
    turn_is (enters f) = rw (lt-ltb it.place M.end f.new.below, turn, f.new.unseen, f.passes.ruled, f.judged)
    turn_is (refuses (is_off h)) = rw (le-ltb it.place M.end h, turn)
    turn_is (refuses (clashes {d} h e n)) = rw (lt-ltb it.place M.end h, turn, e, agree_false d it.depths n)
    turn_is (refuses (is_denied n e)) = rw (lt-ltb it.place M.end n.below, turn, n.unseen, e)
    turn_is (refuses (jumps_badly n g e)) = rw (lt-ltb it.place M.end n.below, turn, n.unseen, g.ruled, e)

    -- and of every item one of these is known.
    abbrev Way : Type 0
    Way = (t : Turn R S) × Taken it w b t

    pub taken_so : Way
    taken_so = at_place (ltb it.place M.end) refl
      where
        at_jumps : New it b → (g : Passes M it) (o : Option R) → first_bad_jump (M.judge it.place) g.jumps ≡ o → Way
        at_jumps n g none e = (_, enters (record { new = n; passes = g; judged = e }))
        at_jumps n g (some r) e = (_, refuses (jumps_badly n g e))

        at_rule : New it b → (o : Ruling R) → M.rule it.place it.depths ≡ o → Way
        at_rule n (denies r) e = (_, refuses (is_denied n e))
        at_rule n (gives post fall jumps) e =
            let g : Passes M it = record { post = post; fall = fall; jumps = jumps; ruled = e } in
            at_jumps n g (first_bad_jump (M.judge it.place) jumps) refl

        at_merge : it.place < M.end
            → (d : Depths)
            → seen M K it.place b.store ≡ some d
            → (o : Bool)
            → agree d it.depths ≡ o
            → Way
        at_merge h d e true q = (_, again (record { below = h; found = rw (agree_true d it.depths q) at e }))
        at_merge h d e false q = (_, refuses (clashes h e (λ same. zero≢one (cc (agree_refl d)))))

        at_store : it.place < M.end → (o : Option Depths) → seen M K it.place b.store ≡ o → Way
        at_store h none e = at_rule (record { below = h; unseen = e }) (M.rule it.place it.depths) refl
        at_store h (some d) e = at_merge h d e (agree d it.depths) refl

        at_place : (o : Bool) → ltb it.place M.end ≡ o → Way
        at_place true e = at_store (ltb-true it.place M.end e) (seen M K it.place b.store) refl
        at_place false e = (_, refuses (is_off (ltb-false it.place M.end e)))
