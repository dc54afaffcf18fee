use Rattle.std.proofs.Common.{◌≡◌, ◌++◌, ℕ, drop}
use Rattle.ospf_world.specs.Networks.{places_on_network, links_from}
use Rattle.ospf_world.proofs.networks.add_router.Given as goal

abbrev pub invariant-loop-link : goal.invariant-loop-link
invariant-loop-link l = (network : ℕ) →
    places_on_network l.networks network ++ links_from network l.place l.link (drop l.link l.config.interfaces.items)
    ≡ places_on_network l.initial.networks network ++ links_from network l.place 0 l.config.interfaces.items
