-- ospf_update/proofs/acks/send_delayed_on/Answers.antt
use Rattle.std.proofs.Common.{◌≡◌, ◌∙◌, List, ap}
use Rattle.ospf_flood.specs.Links.{flooding_address}
use Rattle.ospf_lsa.specs.declared.header.LsaHeader.{LsaHeader}
use Rattle.ospf_area.specs.Sending.{and_sends, way_out}
use Rattle.ospf_area.specs.State.{LinkValue}
use Rattle.ospf_area.specs.contracts.state as state
use Rattle.ospf_area.specs.Updates.Acks.{acks_out}
use Rattle.ospf_area.proofs.Updates.AckLemmas.{acks_posted}
use Rattle.ospf_area.proofs.update.acks.send_delayed_on.Goals as goal

pub returns-clause-sent : goal.returns-clause-sent
returns-clause-sent c =
    let link = c.args.link.now in
    let waiting : c.deref.result.now ≡ link.delayed = c.deref.ensures.value ∙ ap (λ (l : LinkValue). l.delayed) c.link.view_is in
    c.in_ok-send_all.ensures
    ∙ ap (and_sends c.args.out.now)
    (acks_posted c.args.own c.args.number 0 flooding_address link (state.AreaLink.the_view c.link.inside) c.deref.result.now c.flooding_address-to.result
    c.new-outbox.result c.send_acks.new.outbox c.link.view_is c.new-outbox.ensures c.flooding_address-to.ensures c.in_ok-send_acks.ensures
    ∙ ap (λ (hs : List LsaHeader). acks_out c.args.own (way_out c.args.number link.iface (flooding_address link.iface)) link.settings.mtu hs) waiting)
