use Rattle.std.proofs.Common.{◌≡◌, option_copied, take}
use Rattle.std.specs.List.{flat_map}
use Rattle.ospf_originate.specs.Wants.Said.{behind, router_link_bytes}
use Rattle.ospf_originate.proofs.contents.said.behind_neighbours.Given as goal

abbrev pub invariant-loop-neighbour : goal.invariant-loop-neighbour
invariant-loop-neighbour l = option_copied l.rest ≡ behind (flat_map (router_link_bytes l.stub_router l.link) (take l.neighbour-index l.neighbours)) (option_copied l.fn.bytes)
