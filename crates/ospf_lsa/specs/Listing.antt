-- The LSAs that a database lists (RFC 2328, section 12.2; those of age
-- MaxAge take no part, section 14).
use Rattle.std.specs.Prelude.{◌≡◌, ◌≢◌, ◌↔◌, ◌⊎◌, ℕ, ◌<◌, ◌≤◌, List, ◌∷◌, ◌++◌, length, map, take, drop, slice_index_or}
use Rattle.std.specs.List.{Any, AllByRecursion, Contains}
use Rattle.ospf_base.specs.Rising.{IsRisingBy}
use Rattle.ospf_base.specs.Bytes.{number_at}
use Rattle.ospf_base.specs.Constants.{max_age}
use Rattle.ospf_base.specs.declared.ids.LsaKey.{LsaKey}
use Rattle.ospf_base.specs.Keys.{Precedes}
use Rattle.ospf_lsa.specs.Header.{header_of, HeaderFits}
use Rattle.ospf_lsa.specs.Lsa.{IsLsa, IsNetworkLsa, key_of}

-- an LSA that may be listed, the numbers of its header being those of its fields
abbrev pub IsListable : List ℕ → Type 0
IsListable lsa = IsLsa lsa × HeaderFits (header_of lsa) × ((header_of lsa).age < max_age)

-- LSAs below age MaxAge, at most one per key, in the order of their keys
pub record IsListing (lsas : List (List ℕ)) : Type 0 where
  pub rising : IsRisingBy (λ a b. Precedes (key_of a) (key_of b)) lsas
  pub listed : AllByRecursion IsListable lsas

-- the keys are those of the LSAs, place by place
abbrev pub AreKeysOf : List LsaKey → List (List ℕ) → Type 0
AreKeysOf keys lsas = keys ≡ map key_of lsas

-- a listing with its keys
pub record IsKeyed (keys : List LsaKey) (lsas : List (List ℕ)) : Type 0 where
  pub listing : IsListing lsas
  pub keys_are : AreKeysOf keys lsas

-- an LSA of this key is listed
abbrev pub HasKey : List (List ℕ) → LsaKey → Type 0
HasKey lsas key = Any (λ lsa. key_of lsa ≡ key) lsas

-- the new list is the old one with this LSA put in
pub record IsInserted (lsa : List ℕ) (old new : List (List ℕ)) : Type 0 where
  pub before : List (List ℕ)
  pub after : List (List ℕ)
  pub old_is : old ≡ before ++ after
  pub new_is : new ≡ before ++ lsa ∷ after

-- the new list has this LSA, and of the others those of another key
abbrev pub IsPut : List ℕ → List (List ℕ) → List (List ℕ) → Type 0
IsPut lsa old new =
    (x : List ℕ) → Contains new x ↔ ((x ≡ lsa) ⊎ (Contains old x × (key_of x ≢ key_of lsa)))

-- an LSA of this key belongs in front of place `at`
pub record IsPlace (lsas : List (List ℕ)) (key : LsaKey) (at : ℕ) : Type 0 where
  pub within : at ≤ length lsas
  pub before : AllByRecursion (λ lsa. Precedes (key_of lsa) key) (take at lsas)
  pub after : AllByRecursion (λ lsa. Precedes key (key_of lsa)) (drop at lsas)

-- the first n LSAs, and no others, have keys that do not come after this one
pub record IsCount (lsas : List (List ℕ)) (key : LsaKey) (n : ℕ) : Type 0 where
  pub within : n ≤ length lsas
  pub before : (k : ℕ) (d : List ℕ) → k < n → Precedes key (key_of (slice_index_or lsas k d)) → ⊥
  pub after : (k : ℕ) (d : List ℕ) → n ≤ k → k < length lsas
      → Precedes key (key_of (slice_index_or lsas k d))

-- a network-LSA of this Link State ID
abbrev pub IsOfNetwork : ℕ → List ℕ → Type 0
IsOfNetwork id lsa = IsNetworkLsa lsa × (number_at 4 4 lsa ≡ id)

-- the listed network-LSA of this Link State ID; of several the one of
-- the largest Advertising Router
pub record IsNetworkOf (lsas : List (List ℕ)) (id : ℕ) (lsa : List ℕ) : Type 0 where
  pub listed : Contains lsas lsa
  pub of : IsOfNetwork id lsa
  pub largest : (other : List ℕ) → Contains lsas other → IsOfNetwork id other
      → number_at 8 4 other ≤ number_at 8 4 lsa
