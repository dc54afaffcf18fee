use Rattle.std.proofs.Common.{◌≡◌, rules, of_calls}
use Rattle.std.proofs.lemmas.Fn.{always_returns_same}
use Rattle.ospf_harm.specs.HarmLines.{report_harm_rank}
use Rattle.ospf_harm.proofs.report.sort_reports_by_harm.Goals as goal

pub returns-clause-in_order : goal.returns-clause-in_order
returns-clause-in_order c =
    c.sort_unstable_by_key.ensures.sorted report_harm_rank (always_returns_same _ (λ a r. r ≡ report_harm_rank a.0.now) _ (λ a r f' k. search (rules, of_calls)))
