use Rattle.std.proofs.Common.{◌∙◌}
use Rattle.ospf_area.proofs.NumberLemmas.{set_has}
use Rattle.ospf_area.proofs.numbers.was_sent.Goals as goal

pub returns : goal.returns
returns c = c.contains.ensures ∙ set_has c.args.key.now c.args.sent.now.keys
