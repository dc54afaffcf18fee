-- Entries that are packed into packets, as many in each as the MTU has room for (RFC 2328,
-- sections 10.8, 10.9, 13.5 and 13.6).
use Rattle.std.specs.Prelude.{◌≡◌, ◌≢◌, ◌⊎◌, ◌+◌, ◌++◌, ◌<◌, ◌≤◌, ℕ, List, [], ◌∷◌, Some, length, slice_get}
use Rattle.std.specs.List.{flat_map, AllByRecursion}
use Rattle.ospf_base.specs.Constants.{ip_header}
use Rattle.ospf_packet.specs.Meaning.{Meaning, packet_bytes}

-- how long the IP datagram is that carries a packet
abbrev pub ip_length : Meaning → ℕ
ip_length m = ip_header + length (packet_bytes m)

-- the packet of these entries is no longer than the MTU
abbrev pub IsWithin : {X : Type 0} → (List X → Meaning) → ℕ → List X → Type 0
IsWithin packet_with mtu packed = ip_length (packet_with packed) ≤ mtu

-- and with one entry more it would be
abbrev pub IsFull : {X : Type 0} → (List X → Meaning) → ℕ → List X → X → Type 0
IsFull packet_with mtu packed next = mtu < ip_length (packet_with (packed ++ next ∷ []))

-- one packet has the first of the entries, as many as fit, and these are left
pub record IsFilled {X : Type 0} (packet_with : List X → Meaning) (mtu : ℕ)
    (entries packed rest : List X) : Type 0 where
  -- joined, those packed and those left are all of them, in their order
  pub whole : packed ++ rest ≡ entries
  pub fits : IsWithin packet_with mtu packed
  -- the next entry would not have fitted
  pub full : (next : X) (later : List X) → rest ≡ next ∷ later → IsFull packet_with mtu packed next

-- packets have the entries, as many in each as fit
pub record ArePacked {X : Type 0} (packet_with : List X → Meaning) (mtu : ℕ) (entries : List X)
    (packets : List (List X)) : Type 0 where
  -- joined, the packets are all entries, in their order
  pub whole : flat_map (λ packed. packed) packets ≡ entries
  pub some : AllByRecursion (λ packed. packed ≢ []) packets
  -- each fits, or has only one entry
  pub fits :
      AllByRecursion (λ packed. IsWithin packet_with mtu packed ⊎ (length packed ≡ 1)) packets
  -- in none of them would the next entry have fitted too
  pub full : (k : ℕ) (packed : List X) (next : X) (later : List X)
      → slice_get packets k ≡ Some packed → slice_get packets (k + 1) ≡ Some (next ∷ later)
      → IsFull packet_with mtu packed next
