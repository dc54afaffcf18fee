use Rattle.std.proofs.Common.{◌∙◌}
use Rattle.ospf_exchange.proofs.NotTakenLemmas.{skipped}
use Rattle.ospf_exchange.proofs.description.is_not_taken.Goals as goal

pub returns : goal.returns
returns c =
    c.skips.ensures ∙ skipped c.args.local c.args.sender c.args.description c.args.headers.now c.args.neighbour.now c.rule_by_fields.result c.rule_by_fields.ensures
