use Rattle.std.proofs.Common.{rules}
use Rattle.ospf_originate.proofs.IdleLemmas.{wanted_first, wanted_later}
use Rattle.ospf_originate.proofs.idle.is_wanted.Goals as goal

pub returns-then-is_same : goal.returns-then-is_same
returns-then-is_same c =
    let view = c.area.view_is in
    wanted_first c.args.area.now c.args.key.now c.is_same.result (search rules) c.if-is_same.true

pub returns-else-is_same : goal.returns-else-is_same
returns-else-is_same c =
    let view = c.area.view_is in
    wanted_later c.args.area.now c.args.key.now c.is_same.result c.some_network.result (search rules) c.if-is_same.false (search rules)
