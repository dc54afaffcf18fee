use Rattle.std.proofs.Common.{IsTrue}
use Rattle.std.specs.Bool.{⊤}
use Rattle.ospf_harm.proofs.AnswerLemmas.{unread_weaker}
use Rattle.ospf_harm.proofs.input.read_area.Goals as goal

pub returns-in-Err-Entry-clause-fault : goal.returns-in-Err-Entry-clause-fault
returns-in-Err-Entry-clause-fault g c =
    unread_weaker ⊥ (IsTrue c.args.is_rebuilding) (g.R.Read.remaining c.args.input) c.line_refused.result (λ never. absurd never)
    (c.line_refused.ensures (g.R.Read.remaining c.args.input) (c.in-Err-Entry.ensures.refused c.in-Err-Entry.number c.in-Err-Entry.fault (cc)))

pub returns-in-Some-clause-fault : goal.returns-in-Some-clause-fault
returns-in-Some-clause-fault g c =
    let rebuilds : IsTrue c.args.is_rebuilding = c.if-not-is_rebuilding.false in
    unread_weaker ⊤ (IsTrue c.args.is_rebuilding) (g.R.Read.remaining c.args.input) c.router_refused.result (λ always. rebuilds)
    (c.router_refused.ensures (g.R.Read.remaining c.args.input) c.in-Ok.read.listing c.in-Ok.ensures.whole c.in-Some.ensures.some)

pub returns-then-not-is_rebuilding-clause-small : goal.returns-then-not-is_rebuilding-clause-small
returns-then-not-is_rebuilding-clause-small g c = λ rebuilds large. (let no = c.if-not-is_rebuilding.true in let yes = rebuilds in cc)

pub returns-in-None-clause-small : goal.returns-in-None-clause-small
returns-in-None-clause-small g c = λ rebuilds. c.in-None.ensures.none
