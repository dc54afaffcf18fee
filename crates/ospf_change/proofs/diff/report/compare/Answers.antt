use Rattle.std.proofs.Common.{◌≡◌, ◌∙◌, ◌++◌, ℕ, List, ap, flat_map, string_bytes, subst}
use Rattle.ospf_base.specs.declared.ids.RouterId.{RouterId}
use Rattle.ospf_graph.specs.EdgeLists.Listed.{advertisements_of}
use Rattle.ospf_whatif.specs.declared.failure.AreaFailure.{AreaFailure}
use Rattle.ospf_change.specs.Diff.Costs.{cost_line}
use Rattle.ospf_change.specs.Diff.Elements.{AreElementsChanged}
use Rattle.ospf_change.specs.Diff.Sights.{AreRootsAmong, AreSeen}
use Rattle.ospf_change.specs.Diff.Sums.{difference_sums_line}
use Rattle.ospf_change.specs.declared.diff.costs.CostChange.{CostChange}
use Rattle.ospf_change.proofs.Diffs.ReportLemmas.{comparison_is}
use Rattle.ospf_change.proofs.diff.report.compare.Goals as goal

pub returns : goal.returns
returns c =
    let A = advertisements_of c.args.before.now in
    let B = advertisements_of c.args.after.now in
    let old = c.in_ok-old.old.items in
    let new = c.in_ok-new.new.items in
    let elements = string_bytes c.in_ok-text.text in
    let costs = c.in_ok-costs.costs.items in
    let routers = c.in_ok-routers.routers.items in
    let seen = c.in_ok-sights.sights in
    let changed : AreElementsChanged old new elements =
    subst (λ (l : List AreaFailure). AreElementsChanged l new elements) c.deref.ensures.value
    (subst (λ (l : List AreaFailure). AreElementsChanged c.deref.result.now l elements) c.deref-2.ensures.value c.in_ok-text.ensures) in
    let among : AreRootsAmong old new c.args.root routers =
    subst (λ (l : List AreaFailure). AreRootsAmong l new c.args.root routers) c.deref-5.ensures.value
    (subst (λ (l : List AreaFailure). AreRootsAmong c.deref-5.result.now l c.args.root routers) c.deref-6.ensures.value c.in_ok-routers.ensures) in
    let are : AreSeen A B routers seen = subst (λ (l : List RouterId). AreSeen A B l seen) c.deref-7.ensures.value c.in_ok-sights.ensures in
    let lines : c.deref-4.result.now ≡ flat_map cost_line costs = c.deref-4.ensures ∙ c.in_ok-changes_text.ensures ∙ ap (flat_map cost_line) c.deref-3.ensures.value in
    let first : string_bytes c.push_str.new.self ≡ elements ++ flat_map cost_line costs = c.in_ok-push_str.ensures.bytes ∙ ap (λ (l : List ℕ). elements ++ l) lines in
    let last : c.deref-8.result.now ≡ string_bytes seen.lines ++ difference_sums_line seen.sums = c.deref-8.ensures ∙ c.in_ok-text-2.ensures in
    let text : string_bytes c.push_str-2.new.self ≡ (elements ++ flat_map cost_line costs) ++ (string_bytes seen.lines ++ difference_sums_line seen.sums) =
    c.in_ok-push_str-2.ensures.bytes ∙ (λ i. first i ++ last i) in
    comparison_is A B c.args.root old new elements (string_bytes c.push_str-2.new.self) costs routers seen c.status-status.result c.in_ok-old.ensures.all c.in_ok-new.ensures.all
    changed c.in_ok-costs.ensures among are text c.status-status.ensures
