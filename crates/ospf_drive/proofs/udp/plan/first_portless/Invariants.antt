use Rattle.std.proofs.Common.{◌≡◌, ◌<◌, ℕ, Some, slice_get}
use Rattle.ospf_config.specs.declared.config.Config.{Config}
use Rattle.ospf_drive.specs.UdpWire.Plans.{HasPorts}
use Rattle.ospf_drive.proofs.udp.plan.first_portless.Given as goal

-- the configurations so far have ports
abbrev pub invariant-loop-place : goal.invariant-loop-place
invariant-loop-place l = (k : ℕ) (other : Config) → k < l.place → slice_get l.configs k ≡ Some other → HasPorts other
