use Rattle.std.proofs.Common.{◌∙◌, ◌<◌, List, ap, length, subst, sym}
use Rattle.ospf_base.specs.declared.ids.RouterId.{RouterId}
use Rattle.ospf_graph.specs.EdgeLists.Listed.{advertisements_of}
use Rattle.ospf_graph.specs.Routes.{IsTable}
use Rattle.ospf_whatif.specs.Effect.{IsEffectIn}
use Rattle.ospf_whatif.specs.Failure.{HasLarge, without_all}
use Rattle.ospf_whatif.specs.declared.failure.AreaFailure.{AreaFailure}
use Rattle.ospf_harm.specs.Reports.{ReportValue}
use Rattle.ospf_harm.proofs.cases.report_of.Goals as goal

pub of_all-requires-clause-small : goal.of_all-requires-clause-small
of_all-requires-clause-small c =
    subst (λ (l : List AreaFailure). 1 < length l → HasLarge (advertisements_of c.args.listing.now) → ⊥) (sym c.deref.ensures.value) c.requires.small

pub effect-requires-clause-table : goal.effect-requires-clause-table
effect-requires-clause-table c =
    let before = c.requires.ready.before in
    subst (λ (r : RouterId). IsTable (advertisements_of c.args.listing.now) r c.args.cases.now.before.table) (sym before.root_is) before.table

pub returns : goal.returns
returns c =
    let A = advertisements_of c.args.listing.now in
    let before = c.args.cases.now.before in
    let parts = c.args.breakdown.now.parts.items in
    let gone = c.in_ok-outage.ensures.failures ∙ c.deref.ensures.value in
    let here = subst (λ (r : RouterId). IsEffectIn (without_all c.in_ok-outage.outage.failures.items A) r before.table c.in_ok-changes.changes.items)
    c.requires.ready.before.root_is c.in_ok-changes.ensures in
    record {
      failure_is = ap (λ (r : ReportValue). r.0) c.of.ensures;
      effect = subst (λ (r : ReportValue). IsEffectIn (without_all parts A) before.root before.table r.1) (sym c.of.ensures)
          (subst (λ (fs : List AreaFailure). IsEffectIn (without_all fs A) before.root before.table c.in_ok-changes.changes.items) gone here);
    }
