use Rattle.std.proofs.lemmas.Result.{IfOk-weaker}
use Rattle.serde_json.specs.View.{view}
use Rattle.ospf_check.proofs.LineLemmas.{file_plain}
use Rattle.ospf_check.proofs.lines.file_line.Goals as goal

pub line_of-requires : goal.line_of-requires
line_of-requires c = file_plain c.args.file.now _ c.in_ok-value.ensures

pub returns : goal.returns
returns c = IfOk-weaker c.line_of.result _ _ (λ line is. (view c.in_ok-value.value, c.in_ok-value.ensures, is)) c.line_of.ensures
