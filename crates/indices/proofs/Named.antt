-- What an instruction names by its first index: a chain, a switch or a name. Where nothing is bad, it is there.
use mathlib.Core.Bool.{Bool, true, false, ◌||◌}
use mathlib.Core.List.{List, [], ◌∷◌, map, Memᴰ}
use mathlib.Core.Path.{◌≡◌, refl, ap}
use Prim.Native.Nat.{ℕ, ◌+◌, ◌<◌, ◌≤◌}
use native.Mathlib.Omega.{arith}
use borrow.Author.Tests.{ne_eqb, eqb-true}
use lib.Dec.{eqb, lit<}
use lib.ListN.{length}
use Rattle.code.specs.Layout.{Index, indices, layout, among, indices_from, tag_at, index_at, names, chains, switches}
use Rattle.code.specs.Layout.{sites}
use Rattle.code.specs.Tags.{LOAD_NAMED, CALL, CALL_OP, CALL_LOCAL_REF, CALL_NAMED_REF, CALL_THIS_REF, CHAIN, SWITCH}
use Rattle.code.specs.Tags.{Tag, byte, bytes, CUSTOM_SYNTAX}
use Rattle.code.specs.Width.{width_of, width_at}
use Rattle.code.proofs.Widths.{width_there}
use Rattle.pools.specs.Pools.{Pools, chain_at, switch_at, chains_in, switches_in}
use Rattle.pools.specs.Told.{fine}
use Rattle.indices.specs.Indices.{size_of, Tables, ref_at, in_code, chain_refs, switch_refs, in_record, first_bad_ref}
use Rattle.indices.specs.Indices.{tables_of}
use Rattle.indices.specs.Checks.{Sound, pool_counts, checked_at}
use Rattle.indices.specs.declared.Sizes.{Sizes}
use Rattle.indices.proofs.Laws.{fine_first, fine_below}
use Rattle.indices.proofs.Table.{within}

-- ---- the first index, right after the tag

-- an index right after the tag, into this pool
abbrev opening : ℕ → Index
opening pool = record { offset = 1; pool = pool }

-- this tag has one
abbrev Opens : ℕ → ℕ → Type 0
Opens pool tag = Memᴰ (opening pool) (indices tag)

module _ (code : List ℕ) (at tag pool : ℕ) (has : tag_at code at ≡ tag) (opens : Opens pool tag) where
  -- so it lies within the code
  opening_within : tag < 256 → 0 < width_at code at → at + 1 + 2 ≤ length code
  opening_within h there =
      let wide = width_there width_of code at there in
      omega (arith, within tag h (opening pool) opens, ap width_of has, wide.tag, wide.within)

  -- and is below the size of the pool, where nothing among the bytes is bad
  opening_below : (size : ℕ → ℕ) → first_bad_ref size (in_code code at) ≡ fine → index_at code at < size pool
  unfolding in_code
  opening_below size e =
      fine_below size (map (ref_at code at) (indices tag)) (rw has at e) (ref_at code at (opening pool))
      (mapped (indices tag) opens)
    where
      mapped : {i : Index} (is : List Index) → Memᴰ i is → Memᴰ (ref_at code at i) (map (ref_at code at) is)
      mapped {i = i} [] x' = elim x' [ ]
      mapped (j ∷ js) (Memᴰ.head q) = Memᴰ.head (ap (ref_at code at) q)
      mapped (j ∷ js) (Memᴰ.tail m) = Memᴰ.tail (mapped js m)

chain_opens : Opens chains (byte CHAIN)
unfolding layout among indices_from
chain_opens = Memᴰ.head refl

switch_opens : Opens switches (byte SWITCH)
unfolding layout among indices_from
switch_opens = Memᴰ.head refl

site_opens : Opens sites (byte CUSTOM_SYNTAX)
unfolding layout among indices_from
site_opens = Memᴰ.head refl

-- the tags whose rights go by the flag of that name
abbrev pub qualifiable : List Tag
qualifiable = LOAD_NAMED ∷ CALL ∷ CALL_OP ∷ CALL_LOCAL_REF ∷ CALL_NAMED_REF ∷ CALL_THIS_REF ∷ []

-- what holds of each of some tags holds of any that is among them
abbrev Each : (ℕ → Type 0) → List ℕ → Type 0
Each P [] = Unit {0}
Each P (t ∷ ts) = P t × Each P ts

each_among : (P : ℕ → Type 0) (tag : ℕ) (ts : List ℕ) → Each P ts → among tag ts ≡ true → P tag
unfolding among
each_among P tag [] ps e = let no : ◌≡◌ {A = ℕ} 0 1 = cc in absurd (omega arith)
each_among P tag (t ∷ ts) ps e = go (eqb tag t) refl (each_among P tag ts ps.1) e
  where
    go : (b : Bool) → eqb tag t ≡ b → (among tag ts ≡ true → P tag) → (b || among tag ts) ≡ true → P tag
    go true q rest e = rw (eqb-true tag t q) ps.0
    go false q rest e = rest e

qualifiable_opens : (tag : ℕ) → among tag (bytes qualifiable) ≡ true → Opens names tag
unfolding layout among indices_from
qualifiable_opens tag e =
    each_among (Opens names) tag (bytes qualifiable) (
      Memᴰ.head refl,
      (
        Memᴰ.head refl,
        (
          Memᴰ.head refl,
          (Memᴰ.head refl, (Memᴰ.head refl, (Memᴰ.head refl, tt))),
        ),
      ),
    ) e

-- ---- the record that it names

module _ (t : Tables) (code : List ℕ) (at : ℕ) where
  pub chain_record : tag_at code at ≡ byte CHAIN
      → in_record t code at ≡ chain_refs t.steps (chain_at t.chains (index_at code at))
  unfolding in_record
  chain_record has = rw has

  pub switch_record : tag_at code at ≡ byte SWITCH
      → in_record t code at ≡ switch_refs t.cases (switch_at t.switches (index_at code at))
  unfolding in_record
  switch_record has = rw has

  pub no_record : (tag_at code at ≡ byte CHAIN → ⊥) → (tag_at code at ≡ byte SWITCH → ⊥) → in_record t code at ≡ []
  unfolding in_record
  no_record c s = rw (ne_eqb _ _ c, ne_eqb _ _ s)

-- the index of its record can be read
pub chain_read : (code : List ℕ) (at : ℕ) → tag_at code at ≡ byte CHAIN → 0 < width_at code at
    → at + 1 + 2 ≤ length code
chain_read code at has = opening_within code at (byte CHAIN) chains has chain_opens (lit< tt)

pub switch_read : (code : List ℕ) (at : ℕ) → tag_at code at ≡ byte SWITCH → 0 < width_at code at
    → at + 1 + 2 ≤ length code
switch_read code at has = opening_within code at (byte SWITCH) switches has switch_opens (lit< tt)

-- ---- where none of its own indices is bad

module _ (s : Sizes) (code : List ℕ) (at : ℕ) (own : first_bad_ref (size_of s) (in_code code at) ≡ fine) where
  -- a chain that it names is below the number of chains, and so with a switch
  pub chain_below : tag_at code at ≡ byte CHAIN → index_at code at < s.chains
  unfolding size_of
  chain_below has = opening_below code at (byte CHAIN) chains has chain_opens (size_of s) own

  pub switch_below : tag_at code at ≡ byte SWITCH → index_at code at < s.switches
  unfolding size_of
  switch_below has = opening_below code at (byte SWITCH) switches has switch_opens (size_of s) own

  -- and with a name by whose flag its rights go
  pub name_below : among (tag_at code at) (bytes qualifiable) ≡ true → index_at code at < s.names
  unfolding size_of
  name_below e =
      opening_below code at (tag_at code at) names refl (qualifiable_opens (tag_at code at) e) (size_of s) own

  -- of sites there are none to name
  site_below : tag_at code at ≡ byte CUSTOM_SYNTAX → index_at code at < 0
  unfolding size_of
  site_below has = opening_below code at (byte CUSTOM_SYNTAX) sites has site_opens (size_of s) own

  -- what the code asks of the record
  module _ (t : Tables) (sound : Sound s t) (i : ℕ) (same : i ≡ index_at code at) where
    pub chain_entry : tag_at code at ≡ byte CHAIN → i < chains_in t.chains
    chain_entry has = omega (arith, chain_below has, sound.chains_counted)

    pub switch_entry : tag_at code at ≡ byte SWITCH → i < switches_in t.switches
    switch_entry has = omega (arith, switch_below has, sound.switches_counted)

-- ---- where nothing is bad in the pools

module _ (p : Pools) (code : List ℕ) (at : ℕ) (ok : checked_at p code at ≡ fine) where
  own : first_bad_ref (size_of (pool_counts p)) (in_code code at) ≡ fine
  own = fine_first (size_of (pool_counts p)) (in_record (tables_of p) code at) (in_code code at) ok

  -- a chain that an instruction names is there
  pub chain_there : tag_at code at ≡ byte CHAIN → index_at code at < chains_in p.chains
  chain_there = chain_below (pool_counts p) code at own

  -- and so is a switch
  pub switch_there : tag_at code at ≡ byte SWITCH → index_at code at < switches_in p.switches
  switch_there = switch_below (pool_counts p) code at own

  -- and a name by whose flag its rights go
  pub name_there : among (tag_at code at) (bytes qualifiable) ≡ true → index_at code at < length p.names
  name_there = name_below (pool_counts p) code at own

  -- custom syntax is never fine
  pub no_site : tag_at code at ≡ byte CUSTOM_SYNTAX → ⊥
  no_site has = omega (arith, site_below (pool_counts p) code at own has)
