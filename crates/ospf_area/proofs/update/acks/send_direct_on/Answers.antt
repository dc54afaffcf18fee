-- ospf_update/proofs/acks/send_direct_on/Answers.antt
use Rattle.std.proofs.Common.{◌∙◌, ap}
use Rattle.std.proofs.lemmas.Result.{on_ok_weaker}
use Rattle.ospf_neighbour.specs.declared.iface.machine.Iface.{Iface}
use Rattle.ospf_area.specs.Sending.{and_sends, to_address}
use Rattle.ospf_area.specs.contracts.state as state
use Rattle.ospf_area.proofs.Updates.AckLemmas.{acks_posted}
use Rattle.ospf_area.proofs.update.acks.send_direct_on.Goals as goal

pub returns : goal.returns
returns c =
    on_ok_weaker c.send_all.result
    (λ e. e ∙ ap (and_sends c.args.out.now)
    (acks_posted c.args.own c.args.from.link 0 (λ (i : Iface). to_address i c.args.from.address) c.args.link.now (state.AreaLink.the_view c.link.inside) c.args.headers.now c.to_address-to.result
    c.new-outbox.result c.send_acks.new.outbox c.link.view_is c.new-outbox.ensures c.to_address-to.ensures c.in_ok-send_acks.ensures))
    c.send_all.ensures
