-- Prefixes of addresses (RFC 2328, sections 1.2 and 11.1).
use Rattle.std.specs.Prelude.{◌≡◌, ℕ, ◌<◌, ◌⊎◌, bit_and}
use Rattle.ospf_base.specs.Masks.{mask_of}
use Rattle.ospf_base.specs.declared.prefix.Prefix.{Prefix}

-- the prefix is that of the address under the mask
pub record IsPrefixOf (address mask : ℕ) (prefix : Prefix) : Type 0 where
  pub mask_is : mask ≡ mask_of prefix.length
  pub masked : prefix.address.0 ≡ bit_and address mask

-- the address lies in the prefix
abbrev pub Holds : Prefix → ℕ → Type 0
Holds prefix address = bit_and address (mask_of prefix.length) ≡ prefix.address.0

-- the order of prefixes: by address, then by length
abbrev pub IsPrefixBefore : Prefix → Prefix → Type 0
IsPrefixBefore p q =
    (p.address.0 < q.address.0) ⊎ ((p.address.0 ≡ q.address.0) × (p.length < q.length))
