use Rattle.std.proofs.Common.{◌∙◌, ◌++◌, ◌∷◌, [], List, ap, if◌then◌else◌}
use Rattle.ospf_base.specs.declared.ids.LsaKey.{LsaKey}
use Rattle.ospf_area.specs.Turns.{Turn, turn}
use Rattle.ospf_adjacency.specs.Answers.{copies_turn}
use Rattle.ospf_area.specs.Packets.{request_packet}
use Rattle.ospf_exchange.specs.Requests.{asked_next}
use Rattle.ospf_exchange.specs.Timers.{dd_due, request_repeat_due}
use Rattle.ospf_adjacency.specs.Descriptions.{dd_repeated}
use Rattle.ospf_adjacency.proofs.repeating.repeat.Goals as goal

pub returns-clause-turn : goal.returns-clause-turn
returns-clause-turn c =
    let i = c.args.at.now.iface in
    let local = c.args.at.now.local in
    let db = c.args.database.now in
    let again = λ (t : Turn). (
    let asked = asked_next local.mtu local.tick t.neighbour in
    if request_repeat_due c.args.retransmit local.tick t.neighbour then record t { neighbour = asked; sent = t.sent ++ request_packet i asked ∷ [] } else t) in
    let before = turn c.args.neighbour.now c.args.outbox.now in
    let dd = (if dd_due c.args.retransmit local.tick c.args.neighbour.now then dd_repeated i local before else before) in
    c.in_ok-send_to.ensures
    ∙ ap (λ (t : Turn). copies_turn i local c.args.delay db c.in_ok-keys.keys.keys t) (c.in_ok-repeat_request.ensures ∙ ap again c.in_ok-repeat_dd.ensures)
    ∙ ap (λ (ks : List LsaKey). copies_turn i local c.args.delay db ks (again dd)) c.in_ok-keys.ensures
