use Rattle.std.proofs.Common.{◌≡◌, take}
use Rattle.std.specs.List.{flat_map}
use Rattle.ospf_originate.specs.Wants.Wanted.{links_of_link}
use Rattle.ospf_originate.proofs.contents.wants.interface_links.Given as goal

abbrev pub invariant-loop-link : goal.invariant-loop-link
invariant-loop-link l = l.out.items ≡ flat_map (links_of_link l.stub_router) (take l.link-index l.links)
