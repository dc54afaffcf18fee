use Rattle.std.proofs.Common.{◌∙◌, List, ap, take}
use Rattle.serde_json.specs.Data.{Data}
use Rattle.serde_json.specs.View.{items_of}
use Rattle.serde_json.specs.Written.{items_have_float}
use Rattle.ospf_harm.proofs.JsonLemmas.{reports_none}
use Rattle.ospf_harm.proofs.report.reports_json.Goals as goal

pub objects_line-requires : goal.objects_line-requires
objects_line-requires c =
    ap (λ (ds : List Data). items_have_float (items_of ds)) c.loop-report.invariant
    ∙ reports_none c.args.each c.args.root c.args.hidden.now (take c.loop-report.report-index c.args.reports.now)
