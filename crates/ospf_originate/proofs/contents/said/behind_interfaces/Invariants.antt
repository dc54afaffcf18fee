use Rattle.std.proofs.Common.{◌≡◌, option_copied, take}
use Rattle.std.specs.List.{flat_map}
use Rattle.ospf_originate.specs.Wants.Said.{behind, links_bytes}
use Rattle.ospf_originate.proofs.contents.said.behind_interfaces.Given as goal

abbrev pub invariant-loop-link : goal.invariant-loop-link
invariant-loop-link l = option_copied l.rest ≡ behind (flat_map (links_bytes l.stub_router) (take l.link-index l.links)) (option_copied l.fn.bytes)
