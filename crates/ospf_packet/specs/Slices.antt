-- The LSAs of a Link State Update, as slices of the packet (RFC 2328, appendix A.3.5).
use Rattle.std.specs.Prelude.{◌≡◌, ℕ, zero, suc, ◌≤◌, List, [], ◌∷◌, length, take, drop}
use Rattle.std.specs.List.{flat_map, AllByRecursion}
use Rattle.ospf_base.specs.Bytes.{number_at}
use Rattle.ospf_base.specs.Constants.{lsa_header}

-- the length field of the LSA at the front (appendix A.4.1)
abbrev pub lsa_length : List ℕ → ℕ
lsa_length bytes = number_at 18 2 bytes

-- bytes whose length is what the length field in them says, and not below that of a header
pub record IsSlice (lsa : List ℕ) : Type 0 where
  pub long : lsa_header ≤ length lsa
  pub length_is : lsa_length lsa ≡ length lsa

-- their bytes, one LSA after the other
abbrev pub lsas_bytes : List (List ℕ) → List ℕ
lsas_bytes lsas = flat_map (λ (lsa : List ℕ). lsa) lsas

-- the bytes are exactly this number of slices, one after the other
pub record AreSlices (count : ℕ) (bytes : List ℕ) : Type 0 where
  pub slices : List (List ℕ)
  pub counted : length slices ≡ count
  pub each : AllByRecursion IsSlice slices
  pub spelled : bytes ≡ lsas_bytes slices

-- this number of slices, one after the other
abbrev pub slices_in : ℕ → List ℕ → List (List ℕ)
slices_in zero bytes = []
slices_in (suc n) bytes =
    take (lsa_length bytes) bytes ∷ slices_in n (drop (lsa_length bytes) bytes)

-- the bytes begin with a slice
pub record IsFirstSlice (bytes : List ℕ) : Type 0 where
  pub header : lsa_header ≤ length bytes
  pub long : lsa_header ≤ lsa_length bytes
  pub whole : lsa_length bytes ≤ length bytes

-- the bytes begin with this slice, and these bytes follow it
pub record IsSplit (bytes lsa rest : List ℕ) : Type 0 where
  pub is : IsFirstSlice bytes
  pub lsa_is : lsa ≡ take (lsa_length bytes) bytes
  pub rest_is : rest ≡ drop (lsa_length bytes) bytes
