use Rattle.std.proofs.Common.{◌≡◌, ◌++◌, ℕ, drop, map}
use Rattle.ospf_world.specs.Networks.{places_on_network, links_on}
use Rattle.ospf_world.specs.Worlds.{config_of}
use Rattle.ospf_world.proofs.networks.networks_of.Given as goal

abbrev pub invariant-loop-place : goal.invariant-loop-place
invariant-loop-place l = (network : ℕ) → places_on_network l.networks network ++ links_on network l.place (map config_of (drop l.place l.slots)) ≡ links_on network 0 (map config_of l.slots)
