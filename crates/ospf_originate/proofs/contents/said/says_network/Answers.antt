use Rattle.std.proofs.Common.{◌∙◌, ℕ, List, ap}
use Rattle.ospf_area.specs.State.{LinkValue}
use Rattle.ospf_base.specs.Sums.{contents}
use Rattle.ospf_lsa.specs.Attached.{routers_bytes}
use Rattle.ospf_neighbour.specs.Neighbour.{NeighbourValue}
use Rattle.ospf_originate.specs.Wants.Made.{says}
use Rattle.ospf_originate.specs.Wants.Wanted.{advertised_mask, attached_routers}
use Rattle.ospf_originate.specs.Wants.Wanted.WantedValue.{NetworkLsa}
use Rattle.ospf_originate.proofs.Wants.SaidLemmas.{body_behind}
use Rattle.ospf_originate.proofs.contents.said.says_network.Goals as goal

pub returns : goal.returns
returns c =
    let router = c.args.router in
    let said = contents c.args.copy.now in
    let inside = c.link.inside in
    let routers = attached_routers router c.all.result.now in
    c.is_network_lsa.ensures routers
    (c.behind_attached-rest.ensures ∙ body_behind (routers_bytes routers) c.args.copy.now c.as_bytes-lsa.result.now c.as_bytes-lsa.ensures.bytes)
    ∙ ap (λ (m : ℕ). says said (NetworkLsa inside.iface.settings.address.0 router m routers)) c.advertised_mask.ensures
    ∙ ap (λ (ns : List NeighbourValue). says said (NetworkLsa inside.iface.settings.address.0 router (advertised_mask c.args.link.now) (attached_routers router ns))) c.all.ensures.all
    ∙ ap (λ (l : LinkValue). says said (NetworkLsa l.iface.settings.address.0 router (advertised_mask c.args.link.now) (attached_routers router l.neighbours))) c.link.view_is
