use Rattle.std.proofs.Common.{arith}
use Rattle.std.proofs.lemmas.Grind.{common_steps}
use Rattle.std.proofs.lemmas.List.Elements.{filter_map-append}
use Rattle.ospf_plan.proofs.unheard.outward.Goals as goal

pub loop-wire-preserved : goal.loop-wire-preserved
loop-wire-preserved c = grind (arith, common_steps, filter_map-append)
