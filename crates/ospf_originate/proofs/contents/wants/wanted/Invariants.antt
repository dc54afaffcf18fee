use Rattle.std.proofs.Common.{◌≡◌, ◌∷◌, filter, map, take}
use Rattle.ospf_originate.specs.Wants.Own.{wanted_value}
use Rattle.ospf_originate.specs.Wants.Wanted.{WantedValue, is_dr_of, network_of, own_links}
use Rattle.ospf_originate.proofs.contents.wants.wanted.Given as goal

abbrev pub invariant-loop-link : goal.invariant-loop-link
invariant-loop-link l =
    map wanted_value l.all.items ≡ WantedValue.RouterLsa l.fn.router (own_links l.fn.stub_router l.fn.links l.fn.stubs) ∷ map (network_of l.fn.router) (filter is_dr_of (take l.link-index l.fn.links))
