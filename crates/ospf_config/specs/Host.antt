-- Addresses that an interface or a host can have.
use Rattle.std.specs.Prelude.{ℕ, ◌+◌, ◌-◌, ◌/◌, ◌%◌, ◌^◌, ◌<◌, ◌≤◌}

-- how many addresses a prefix of this length has
abbrev pub prefix_size : ℕ → ℕ
prefix_size length = 2 ^ (32 - length)

-- the bits after the prefix
abbrev pub host_part : ℕ → ℕ → ℕ
host_part address length = address % prefix_size length

-- the first of the four octets of an address
abbrev pub first_octet : ℕ → ℕ
first_octet address = address / 2 ^ 24

-- a first octet of a unicast address
pub record IsUnicast (address : ℕ) : Type 0 where
  pub octet_low : 1 ≤ first_octet address
  pub octet_high : first_octet address ≤ 223

-- a unicast address under a prefix of 1 to 31 bits: the bits after a prefix of up to 30 bits are
-- neither all zeros nor all ones, and under one of 31 bits both addresses are hosts (RFC 3021)
pub record IsHostAddress (address prefix_length : ℕ) : Type 0 where
  pub long : 1 ≤ prefix_length
  pub short : prefix_length ≤ 31
  pub not_zeros : prefix_length ≤ 30 → 0 < host_part address prefix_length
  pub not_ones : prefix_length ≤ 30
      → host_part address prefix_length + 1 < prefix_size prefix_length
  pub octet_low : 1 ≤ first_octet address
  pub octet_high : first_octet address ≤ 223
