-- Moments of a router: ticks, which count modulo 2^64.
use Rattle.std.specs.Prelude.{◌+◌, ◌-◌, ◌%◌, ◌^◌, ℕ, Bool, nat_le}

-- the ticks from one to another
abbrev pub ticks_since : ℕ → ℕ → ℕ
ticks_since then_tick tick = (tick + (2 ^ 64 - then_tick)) % 2 ^ 64

-- this many ticks, or more, have passed since then
abbrev pub have_passed : ℕ → ℕ → ℕ → Bool
have_passed ticks then_tick tick = nat_le ticks (ticks_since then_tick tick)
