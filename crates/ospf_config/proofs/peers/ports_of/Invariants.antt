use Rattle.std.proofs.Common.{◌≡◌, Some, take}
use Rattle.toml.specs.View.{items_view}
use Rattle.ospf_config.specs.Reading.{integers_of}
use Rattle.ospf_config.proofs.PeerLists.{numbers}
use Rattle.ospf_config.proofs.peers.ports_of.Given as goal

abbrev pub invariant-loop-value : goal.invariant-loop-value
invariant-loop-value l = integers_of (items_view (take l.value-index l.values)) ≡ Some (numbers l.ports.items)
