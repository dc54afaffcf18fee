use Rattle.std.proofs.Common.{rules, ◌≡◌, ◌≤◌, ◌∙◌, ◌++◌, ◌∷◌, [], List, arith, length, subst, sym}
use Rattle.std.proofs.lemmas.List.{take_all}
use Rattle.std.specs.List.{All, AllZip}
use Rattle.ospf_graph.specs.EdgeLists.Listed.{advertisements_of}
use Rattle.ospf_harm.specs.Reports.{IsReportOf}
use Rattle.ospf_harm.specs.Together.{IsComputable}
use Rattle.ospf_harm.specs.declared.carrier.Breakdown.{Breakdown}
use Rattle.ospf_harm.proofs.FoundLemmas.{zip_more}
use Rattle.ospf_harm.proofs.cases.reports_in_turn.Goals as goal

pub report_of-requires-clause-small : goal.report_of-requires-clause-small
report_of-requires-clause-small c =
    let A = advertisements_of c.args.listing.now in
    let all : All (IsComputable A) c.deref-breakdown-items.result.now = subst (λ (l : List Breakdown). All (IsComputable A) l) (sym c.deref-breakdown-items.ensures.value) c.requires.small in
    subst (IsComputable A) (sym c.breakdown-item.is) (all c.loop-breakdown.breakdown-index c.breakdown-item.result c.loop-breakdown-test.true)

pub loop-breakdown-preserved : goal.loop-breakdown-preserved
loop-breakdown-preserved c =
    let R = IsReportOf (advertisements_of c.args.listing.now) c.args.cases.now.before.root c.args.cases.now.before.table in
    let bs = c.deref-breakdown-items.result.now in
    let one = c.in_ok-report_of.field-0 in
    let items : c.push.new.self.items ≡ c.loop-breakdown.reports.items ++ one ∷ [] = search rules in
    rw items (zip_more R bs c.loop-breakdown.breakdown-index c.breakdown-item.result c.loop-breakdown.reports.items one c.loop-breakdown-test.true
    c.breakdown-item.is c.loop-breakdown.invariant c.in_ok-report_of.ensures)

pub returns : goal.returns
returns c =
    let R = IsReportOf (advertisements_of c.args.listing.now) c.args.cases.now.before.root c.args.cases.now.before.table in
    let end : length c.deref-breakdown-items.result.now ≤ c.loop-breakdown.breakdown-index = omega (arith, c.loop-breakdown-test.false) in
    subst (λ (l : List Breakdown). AllZip R l c.loop-breakdown.reports.items)
    (take_all c.loop-breakdown.breakdown-index c.deref-breakdown-items.result.now end ∙ c.deref-breakdown-items.ensures.value) c.loop-breakdown.invariant
