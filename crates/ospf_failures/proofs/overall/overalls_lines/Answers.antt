use Rattle.std.proofs.Common.{◌∙◌, ap}
use Rattle.serde_json.specs.Data.{Data}
use Rattle.serde_json.specs.Written.{has_float}
use Rattle.ospf_failures.proofs.JsonLemmas.{overall_line_none}
use Rattle.ospf_failures.proofs.overall.overalls_lines.Goals as goal

pub data_line-requires : goal.data_line-requires
data_line-requires c =
    ap (λ (d : Data). has_float d) c.in_ok-value.ensures ∙ overall_line_none c.args.each c.args.hidden.now c.overall-item.result
