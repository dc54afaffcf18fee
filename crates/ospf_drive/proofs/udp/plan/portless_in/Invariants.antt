use Rattle.std.proofs.Common.{◌≡◌, ◌<◌, ℕ, IsSome, Some, slice_get}
use Rattle.ospf_config.specs.declared.interface.Interface.{Interface}
use Rattle.ospf_drive.proofs.udp.plan.portless_in.Given as goal

-- the interfaces so far have ports
abbrev pub invariant-loop-number : goal.invariant-loop-number
invariant-loop-number l = (k : ℕ) (other : Interface) → k < l.number → slice_get l.interfaces k ≡ Some other → IsSome other.port
