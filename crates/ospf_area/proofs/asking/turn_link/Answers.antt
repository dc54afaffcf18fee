-- ospf_area/proofs/asking/turn_link/Answers.antt
use Rattle.std.proofs.Common.{◌≡◌, ◌∙◌, ap}
use Rattle.std.proofs.lemmas.Result.{on_ok_weaker}
use Rattle.ospf_area.specs.Sending.{and_sends}
use Rattle.ospf_area.specs.State.{LinkValue}
use Rattle.ospf_area.proofs.OutboxLemmas.{link_turned}
use Rattle.ospf_area.proofs.asking.turn_link.Goals as goal

pub returns-clause-sent : goal.returns-clause-sent
returns-clause-sent c =
    let are : c.deref_mut.result.now ≡ c.args.link.now.neighbours =
    c.deref_mut.ensures.value ∙ c.neighbours.view_is ∙ ap (λ (l : LinkValue). l.neighbours) c.link.view_is in
    on_ok_weaker c.send_all.result
    (λ e. e ∙ ap (and_sends c.args.out.now)
    (link_turned c.args.own c.args.number c.args.link.now c.of-at.result c.new-outbox.result c.turn_all.new.outbox c.deref_mut.result.now c.of-at.ensures c.new-outbox.ensures are c.in_ok-turn_all.ensures.sent))
    c.send_all.ensures
