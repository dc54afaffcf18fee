-- The ring of moments.
use Rattle.std.proofs.Common.{◌≡◌, ◌<◌, ◌+◌, ◌%◌, ℕ, arith}
use Rattle.ospf_lsdb.specs.Moments.{ahead}

-- a moment that is so far ahead
pub ahead-is : (clock moment x : ℕ) → clock < 65536 → moment < 65536 → ahead clock moment ≡ x → moment ≡ (clock + x) % 65536
unfolding ahead
ahead-is clock moment x c m is = omega arith

pub ahead-of : (clock x : ℕ) → clock < 65536 → x < 65536 → ahead clock ((clock + x) % 65536) ≡ x
unfolding ahead
ahead-of clock x c b = omega arith

-- none is ahead of itself
pub ahead-none : (clock moment : ℕ) → clock < 65536 → moment < 65536 → ahead clock moment ≡ 0 → moment ≡ clock
unfolding ahead
ahead-none clock moment c m is = omega arith

pub ahead-now : (clock : ℕ) → clock < 65536 → ahead clock clock ≡ 0
unfolding ahead
ahead-now clock c = omega arith

-- a tick brings each other moment nearer
pub ahead-tick : (clock moment : ℕ) → clock < 65536 → 0 < ahead clock moment → ahead ((clock + 1) % 65536) moment + 1 ≡ ahead clock moment
unfolding ahead
ahead-tick clock moment c far = omega arith

-- and the present one to the far end
pub ahead-past : (clock : ℕ) → clock < 65536 → ahead ((clock + 1) % 65536) clock ≡ 65535
unfolding ahead
ahead-past clock c = omega arith
