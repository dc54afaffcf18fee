-- What a router keeps between the parts of a step, so that each can be taken (RFC
-- 2328, sections 8.2, 9.3 and 12.4).
use Rattle.std.specs.Prelude.{◌≡◌, true}
use Rattle.std.specs.List.{AllByRecursion}
use Rattle.ospf_base.specs.declared.ids.RouterId.{RouterId}
use Rattle.ospf_adjacency.specs.Elections.{AreOfLink, elects_in}
use Rattle.ospf_area.specs.State.{AreaValue, LinkValue}
use Rattle.ospf_originate.specs.Sound.{IsSound}

-- a link of the router: no neighbour is the router itself, and an election is
-- due only in a state of the interface that has elections
pub record IsFitLink (router : RouterId) (link : LinkValue) : Type 0 where
  pub own : link.iface.settings.router ≡ router
  pub neighbours : AreOfLink link.iface link.neighbours
  pub electing : link.elects ≡ true → elects_in link.iface.state ≡ true

-- its links are, and what it keeps for its own LSAs is sound
pub record IsFitRouter (s : AreaValue) : Type 0 where
  pub links : AllByRecursion (IsFitLink s.router) s.links
  pub sound : IsSound s
