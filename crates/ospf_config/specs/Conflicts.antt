-- Interfaces whose addresses conflict.
use Rattle.std.specs.Prelude.{◌≡◌, ◌⊎◌, ℕ, List, [], ◌∷◌, bit_and, Any}
use Rattle.ospf_base.specs.Masks.{mask_of}
use Rattle.ospf_config.specs.declared.address.InterfaceAddress.{InterfaceAddress}

-- the address without the bits after the prefix
abbrev pub network_part : InterfaceAddress → ℕ
network_part a = bit_and a.address.0 (mask_of a.length)

-- the addresses have the same prefix, or are the same
pub data Conflict (a b : InterfaceAddress) : Type 0 where
  one_prefix : a.length ≡ b.length → network_part a ≡ network_part b → Conflict a b
  one_address : a.address.0 ≡ b.address.0 → Conflict a b

-- an address is in conflict with a later one
abbrev pub HasConflict : List InterfaceAddress → Type 0
HasConflict [] = ⊥
HasConflict (a ∷ rest) = Any (Conflict a) rest ⊎ HasConflict rest
