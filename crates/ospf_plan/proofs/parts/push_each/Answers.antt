use Rattle.std.proofs.Common.{◌<◌, ◌++◌, ◌∙◌, ap, sym, arith, length, take, append_assoc}
use Rattle.std.specs.Option.{option_to_list}
use Rattle.std.specs.List.{filter_map}
use Rattle.ospf_plan.specs.Joins.{set_has}
use Rattle.ospf_plan.specs.Parts.{apart}
use Rattle.ospf_plan.proofs.Steps.{filter_map_more}
use Rattle.ospf_plan.proofs.parts.push_each.Goals as goal

pub loop-end-preserved : goal.loop-end-preserved
loop-end-preserved c =
    let ends = c.args.ends.now in
    let i = c.loop-end.end-index in
    let x = c.end-item.result in
    let h = apart (set_has c.args.reached.now) c.args.first in
    let within : i < length ends = omega arith in
    let old = c.args.findings.now.items in
    let before = filter_map h (take i ends) in
    let last = option_to_list (h x) in
    c.in_ok-push_one.ensures
    ∙ ap (λ o. c.loop-end.findings.items ++ option_to_list o) c.apart.ensures
    ∙ ap (λ fs. fs ++ last) c.loop-end.invariant
    ∙ append_assoc old before last
    ∙ ap (λ y. old ++ (before ++ option_to_list (h y))) c.end-item.is
    ∙ ap (λ fs. old ++ fs) (sym (filter_map_more ends i x within h))
