use Rattle.ospf_originate.proofs.IdleLemmas.{idle_own}
use Rattle.ospf_originate.proofs.own.own_lsas.Goals as goal

pub returns-then-is_idle-clause-own : goal.returns-then-is_idle-clause-own
returns-then-is_idle-clause-own c = idle_own c.args.area.now c.args.out.now (c.is_idle.ensures.0 c.if-is_idle.true)
