-- ospf_update/proofs/meeting/send_first_dd_on/Answers.antt
use Rattle.std.proofs.Common.{◌∙◌, ap}
use Rattle.std.proofs.lemmas.Result.{on_ok_weaker}
use Rattle.ospf_packet.specs.Said.{body_meant}
use Rattle.ospf_area.specs.Sending.{and_sends}
use Rattle.ospf_area.specs.contracts.state as state
use Rattle.ospf_area.proofs.Updates.OutboxLemmas.{first_posted}
use Rattle.ospf_area.proofs.update.meeting.send_first_dd_on.Goals as goal

pub returns : goal.returns
returns c =
    on_ok_weaker c.send_all.result
    (λ e. e ∙ ap (and_sends c.args.out.now)
    (first_posted c.args.own c.args.from c.args.number c.args.own.tick c.args.link.now (state.AreaLink.the_view c.link.inside) (body_meant c.description_body-body.result) c.beginning-first.result c.new.result.items
    c.to_address.result c.new-outbox.result c.put.new.self c.link.view_is c.beginning-first.ensures c.new.ensures.items c.description_body-body.ensures c.to_address.ensures c.new-outbox.ensures c.in_ok-put.ensures.sent))
    c.send_all.ensures
