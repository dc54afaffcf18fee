use Rattle.std.proofs.Common.{not, ap, ◌∙◌}
use Rattle.ospf_exchange.proofs.KeyLemmas.{held_more}
use Rattle.ospf_exchange.proofs.request.are_held.Goals as goal

pub loop-entry-preserved : goal.loop-entry-preserved
loop-entry-preserved c =
    let is = c.in-Some-from_type.ensures in (
      tt,
      tt,
      held_more c.args.database.now c.in-Some.entry c.in-Some-from_type.key c.get.result c.loop-entry.entry-iterator c.next.new.self c.args.requests is c.get.ensures.entry (c.is_none.ensures ∙ ap not c.if-is_none.false) c.in-Some.ensures.steps c.loop-entry.invariant.2,
    )
