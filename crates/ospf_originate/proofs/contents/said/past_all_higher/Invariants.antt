use Rattle.std.proofs.Common.{◌≡◌, option_copied, take}
use Rattle.std.specs.List.{flat_map}
use Rattle.ospf_originate.specs.Wants.Said.{behind, higher_bytes}
use Rattle.ospf_originate.proofs.contents.said.past_all_higher.Given as goal

abbrev pub invariant-loop-neighbour : goal.invariant-loop-neighbour
invariant-loop-neighbour l = option_copied l.rest ≡ behind (flat_map (higher_bytes l.router) (take l.neighbour-index l.neighbours)) (option_copied l.fn.bytes)
