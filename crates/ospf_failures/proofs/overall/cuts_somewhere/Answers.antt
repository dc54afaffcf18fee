use Rattle.std.proofs.Common.{◌<◌, ◌≤◌, rules, tests}
use Rattle.std.proofs.lemmas.Iterator.{YieldsList-from_slice, cases_from_any}
use Rattle.ospf_failures.proofs.OverallLemmas.{cuts_by}
use Rattle.ospf_failures.proofs.overall.cuts_somewhere.Goals as goal

pub returns : goal.returns
returns c =
    let os = c.args.overalls.now in
    cuts_by (λ o. o.sums.cut) c.any.result os (cases_from_any _ _ _ (λ o. 0 < o.sums.cut) (λ o. o.sums.cut ≤ 0) c.any.ensures.ran (YieldsList-from_slice os cc)
    (λ x q k. search (rules, tests)) (λ x q k. search (rules, tests)))
