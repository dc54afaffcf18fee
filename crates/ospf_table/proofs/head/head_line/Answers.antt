use Rattle.std.proofs.Common.{◌∙◌, ap, refl}
use Rattle.std.specs.Str.Lines.{lines}
use Rattle.serde_json.specs.Data.{Data}
use Rattle.serde_json.specs.Written.{has_float}
use Rattle.ospf_table.proofs.FloatLemmas.{texts_none}
use Rattle.ospf_table.proofs.head.head_line.Goals as goal

pub data_line-requires : goal.data_line-requires
data_line-requires c = ap (λ (d : Data). has_float d) c.in_ok-value.ensures ∙ rw (texts_none (lines c.args.warnings.now)) refl
