-- Pairs of 32-bit numbers as one number.
use Rattle.std.specs.Prelude.{◌+◌, ◌*◌, ℕ}

-- by the first, then by the second
abbrev pub pair_code : ℕ → ℕ → ℕ
pair_code first second = first * 4294967296 + second
