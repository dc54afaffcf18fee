-- What a part on one link makes of the router, and what goes out.
use Rattle.std.specs.Prelude.{ℕ, List, [], Option, None, Some, set, slice_get}
use Rattle.ospf_area.specs.Acting.{Becomes}
use Rattle.ospf_area.specs.Outputs.{OutputsValue, SentValue}
use Rattle.ospf_area.specs.Sending.{and_sends, context_of}
use Rattle.ospf_area.specs.State.{AreaValue, LinkValue}
use Rattle.ospf_area.specs.declared.sending.RouterContext.{RouterContext}
use Rattle.ospf_adjacency.specs.Heard.{Neighbourhood}
use Rattle.ospf_adjacency.specs.Links.{hello_packet}
use Rattle.ospf_area.specs.Packets.{packet_if}
use Rattle.ospf_neighbour.specs.Interface.Machine.{is_down}
use Rattle.ospf_adjacency.specs.LinkSteps.Parts.{link_up, with_neighbourhood}
use Rattle.ospf_area.specs.Outboxes.{posted_all}

-- ---- parts on the neighbours of a link

-- the router and its link l as the part leaves them, and what goes out of the link. Where there
-- is no such link nothing happens
abbrev pub WorksOn : (LinkValue → Neighbourhood) → ℕ → AreaValue → OutputsValue → OutputsValue
    → AreaValue → Type 0
WorksOn part l before out out' after =
    Becomes
    (elim (slice_get before.links l) [
      | None ↦ before
      | Some link ↦
          record before {
            links = set before.links l (with_neighbourhood (part link) link);
            next_dd = (part link).next;
          }
    ])
    (and_sends out (elim (slice_get before.links l) [
      | None ↦ []
      | Some link ↦ posted_all (context_of before) l link.iface (part link).sent
    ])) out' after

-- ---- changes of a link

-- the router after a change of link l
abbrev pub link_changed : (LinkValue → LinkValue) → ℕ → AreaValue → AreaValue
link_changed change l s =
    elim (slice_get s.links l) [
      | None ↦ s
      | Some link ↦ record s { links = set s.links l (change link) }
    ]

-- the first Hello of a link that goes up, if it is there and was down (9.5)
abbrev pub up_out_on : Option LinkValue → RouterContext → ℕ → List SentValue
up_out_on None own l = []
up_out_on (Some link) own l =
    let i = (link_up link).iface in
    posted_all own l i (packet_if (is_down link.iface.state) (hello_packet i link.neighbours))
