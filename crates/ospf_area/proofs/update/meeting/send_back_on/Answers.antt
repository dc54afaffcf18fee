-- ospf_update/proofs/meeting/send_back_on/Answers.antt
use Rattle.std.proofs.Common.{◌∙◌, ap}
use Rattle.std.proofs.lemmas.Result.{on_ok_weaker}
use Rattle.ospf_neighbour.specs.declared.iface.machine.Iface.{Iface}
use Rattle.ospf_area.specs.Sending.{and_sends, to_address}
use Rattle.ospf_area.specs.contracts.state as state
use Rattle.ospf_area.proofs.OutboxLemmas.{lsa_posted}
use Rattle.ospf_area.proofs.update.meeting.send_back_on.Goals as goal

pub returns : goal.returns
returns c =
    on_ok_weaker c.send_all.result
    (λ e. e ∙ ap (and_sends c.args.out.now)
    (lsa_posted c.args.own c.args.from.link 0 (λ (i : Iface). to_address i c.args.from.address) c.args.link.now (state.AreaLink.the_view c.link.inside) c.args.lsa.now c.in_ok-copy.copy c.to_address.result
    c.new-outbox.result c.send_lsa.new.outbox c.link.view_is c.new-outbox.ensures c.in_ok-copy.ensures c.to_address.ensures c.in_ok-send_lsa.ensures))
    c.send_all.ensures
