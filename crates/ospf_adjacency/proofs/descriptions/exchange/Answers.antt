use Rattle.std.proofs.Common.{◌∙◌, Ok, ap, sym}
use Rattle.ospf_exchange.specs.declared.description.DdAnswer.{DdAnswer}
use Rattle.ospf_area.specs.Turns.{turn}
use Rattle.ospf_adjacency.proofs.TurnLemmas.{answered}
use Rattle.ospf_adjacency.proofs.descriptions.exchange.Goals as goal

pub returns-in_ok-repeat-in-Ok-Repeats-clause-turn : goal.returns-in_ok-repeat-in-Ok-Repeats-clause-turn
returns-in_ok-repeat-in-Ok-Repeats-clause-turn c =
    c.in_ok-repeat-in-Ok-Repeats.ensures
    ∙ answered c.args.at.now.iface c.args.at.now.local c.args.sender c.args.description c.args.headers c.args.database.now (turn c.args.neighbour.now c.args.outbox.now) _ c.on_dd.new.neighbour
    (ap (λ (a : DdAnswer). Ok a) (sym c.in-Ok-Repeats.field-0-is) ∙ c.in-Ok-Repeats.ensures.answer) c.in-Ok-Repeats.ensures.after

pub returns-in_ok-go_on-in-Ok-Sends-clause-turn : goal.returns-in_ok-go_on-in-Ok-Sends-clause-turn
returns-in_ok-go_on-in-Ok-Sends-clause-turn c =
    c.in_ok-go_on-in-Ok-Sends.ensures
    ∙ answered c.args.at.now.iface c.args.at.now.local c.args.sender c.args.description c.args.headers c.args.database.now (turn c.args.neighbour.now c.args.outbox.now) _ c.on_dd.new.neighbour
    (ap (λ (a : DdAnswer). Ok a) (sym c.in-Ok-Sends.field-0-is) ∙ c.in-Ok-Sends.ensures.answer) c.in-Ok-Sends.ensures.after

pub returns-in_ok-request_turn-in-Ok-Ends-clause-turn : goal.returns-in_ok-request_turn-in-Ok-Ends-clause-turn
returns-in_ok-request_turn-in-Ok-Ends-clause-turn c =
    c.in_ok-request_turn-in-Ok-Ends.ensures.turn
    ∙ answered c.args.at.now.iface c.args.at.now.local c.args.sender c.args.description c.args.headers c.args.database.now (turn c.args.neighbour.now c.args.outbox.now) _ c.on_dd.new.neighbour
    (ap (λ (a : DdAnswer). Ok a) (sym c.in-Ok-Ends.field-0-is) ∙ c.in-Ok-Ends.ensures.answer) c.in-Ok-Ends.ensures.after
