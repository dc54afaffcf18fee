use Rattle.std.proofs.Common.{◌+◌, ◌-◌, ◌*◌, length}
use Rattle.ospf_fib.specs.PrefixIndex.Room.{HasRoom, IsSweptTo}
use Rattle.ospf_fib.proofs.index.sweep.ranges_of.Given as goal

-- the routes before this place have begun, and there is room for the others
abbrev pub invariant-loop-place : goal.invariant-loop-place
invariant-loop-place l = IsSweptTo l.routes l.place l.sweep × HasRoom (2 * length l.routes + 1) l.sweep (length l.routes - l.place)
