-- The elections that end a step, with AdjOK? (RFC 2328, section 9.4).
use Rattle.std.specs.Prelude.{◌≡◌, ℕ, zero, suc, Bool, true, false, List, [], None, Some, set, slice_get}
use Rattle.ospf_adjacency.specs.Elections.{AreOfLink, ElectsOn, elects_in}
use Rattle.ospf_area.specs.Packets.{PendingPacket}
use Rattle.ospf_area.specs.Outputs.{OutputsValue}
use Rattle.ospf_area.specs.Sending.{and_sends, context_of}
use Rattle.ospf_area.specs.State.{AreaValue, LinkValue}
use Rattle.ospf_area.specs.declared.sending.RouterContext.{RouterContext}
use Rattle.ospf_area.specs.Outboxes.{posted_all}

-- where an election is due, one can take place
pub record IsReady (link : LinkValue) : Type 0 where
  pub electing : link.elects ≡ true → elects_in link.iface.state ≡ true
  pub others : link.elects ≡ true → AreOfLink link.iface link.neighbours

-- all links are
abbrev pub AreReady : List LinkValue → Type 0
AreReady links = (l : ℕ) (link : LinkValue) → slice_get links l ≡ Some link → IsReady link

-- the election of a link, if one is due, with AdjOK?; then none is due any more (9.4)
abbrev pub ElectsIf : Bool → RouterContext → ℕ → LinkValue → LinkValue → ℕ → List PendingPacket
    → Type 0
ElectsIf false own next link link' next' sent = (link' ≡ link) × (next' ≡ next) × (sent ≡ [])
ElectsIf true own next link link' next' sent =
    ElectsOn link.settings.mtu own.tick link.iface link.neighbours next sent link'.iface
    link'.neighbours next'
    × (link' ≡ record link { iface = link'.iface; neighbours = link'.neighbours; elects = false })

-- the election of link l, if it is due, and nothing where there is no such link: the router
-- afterwards, and the outputs with what it sends
abbrev pub ElectsAt : ℕ → AreaValue → OutputsValue → OutputsValue → AreaValue → Type 0
ElectsAt l before out out' after = elim (slice_get before.links l) [
  | None ↦ (after ≡ before) × (out' ≡ out)
  | Some link ↦
      (link' : LinkValue) × (next' : ℕ) × (sent : List PendingPacket)
      × ElectsIf link.elects (context_of before) before.next_dd link link' next' sent
      × (after ≡ record before { links = set before.links l link'; next_dd = next' })
      × (out' ≡ and_sends out (posted_all (context_of before) l link.iface sent))
]

-- those of the first links, in their order
abbrev pub ElectsFrom : ℕ → AreaValue → OutputsValue → OutputsValue → AreaValue → Type 0
ElectsFrom zero before out out' after = (after ≡ before) × (out' ≡ out)
ElectsFrom (suc l) before out out' after =
    (mid : AreaValue) × (mid_out : OutputsValue) × ElectsFrom l before out mid_out mid
    × ElectsAt l mid mid_out out' after
