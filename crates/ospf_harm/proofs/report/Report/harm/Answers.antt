use Rattle.std.proofs.Common.{◌∙◌, List, ap}
use Rattle.ospf_whatif.specs.declared.effect.RouteChange.{RouteChange}
use Rattle.ospf_harm.specs.Harm.{harm_at}
use Rattle.ospf_harm.specs.HarmLines.{report_harm}
use Rattle.ospf_harm.specs.Reports.{ReportValue}
use Rattle.ospf_harm.proofs.report.Report.harm.Goals as goal

pub returns : goal.returns
returns c =
    c.of.ensures
    ∙ ap (λ (changes : List RouteChange). harm_at c.self.inside.failure changes) c.deref.ensures.value
    ∙ ap (λ (r : ReportValue). report_harm r) c.self.view_is
