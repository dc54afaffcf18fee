use Rattle.std.proofs.Common.{◌∙◌, IfOk, List, ap, subst, sym}
use Rattle.std.specs.List.{All, AllZip}
use Rattle.rayon.proofs.ToStd.{slice-AllZip}
use Rattle.ospf_graph.specs.EdgeLists.Listed.{advertisements_of}
use Rattle.ospf_harm.specs.Reports.{IsReportOf}
use Rattle.ospf_harm.specs.Together.{IsComputable}
use Rattle.ospf_harm.specs.declared.carrier.Breakdown.{Breakdown}
use Rattle.ospf_harm.proofs.FoundLemmas.{IsFound, all_found}
use Rattle.ospf_failures.proofs.report.reports_in_threads.Goals as goal

pub collect-requires-clause-ready : goal.collect-requires-clause-ready
collect-requires-clause-ready g c κs within =
    let slice = ap (λ it. it.slice.now) (ap (λ m. m.base) c.map.ensures.base ∙ c.with_min_len.ensures.base) ∙ c.par_iter.ensures in
    let small = subst (λ (l : List Breakdown). All (IsComputable (advertisements_of c.args.listing.now)) l) (sym c.deref-breakdowns.ensures.value) c.requires.small in
    rw c.map.ensures.f (rw slice (λ k d lt x is. ((c.requires.ready, rw is (small k d lt)), λ y post. tt)))

pub returns : goal.returns
returns g c =
    let R = IsReportOf (advertisements_of c.args.listing.now) c.args.cases.now.before.root c.args.cases.now.before.table in
    let bs = c.deref-breakdowns.result.now in
    let slice = ap (λ it. it.slice.now) (ap (λ m. m.base) c.map.ensures.base ∙ c.with_min_len.ensures.base) ∙ c.par_iter.ensures in
    let chain = rw c.map.ensures.f at c.in_ok-collect.ensures in
    let each_found = slice-AllZip chain.1.0 bs (chain.1.1 ∙ slice) (IsFound R) chain.0 chain.1.2 in
    subst (λ (l : List Breakdown). IfOk c.in_ok-collect.field-0 (λ found. AllZip R l found.items)) c.deref-breakdowns.ensures.value
    (all_found R bs chain.0 c.in_ok-collect.field-0 each_found chain.2)
