use Rattle.std.proofs.Common.{◌≡◌, rules, of_calls}
use Rattle.std.proofs.lemmas.Fn.{always_returns_same}
use Rattle.ospf_harm.specs.Reports.{rank_of}
use Rattle.ospf_harm.proofs.report.sort_reports.Goals as goal

pub returns-clause-in_order : goal.returns-clause-in_order
returns-clause-in_order c =
    c.sort_unstable_by_key.ensures.sorted rank_of (always_returns_same _ (λ a r. r ≡ rank_of a.0.now) _ (λ a r f' k. search (rules, of_calls)))
