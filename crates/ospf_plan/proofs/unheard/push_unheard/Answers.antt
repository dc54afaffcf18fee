use Rattle.std.proofs.Common.{rules, ◌≡◌, ◌<◌, ◌++◌, ◌∙◌, ap, sym, arith, filter, length, take, append_assoc}
use Rattle.std.specs.Option.{option_to_list}
use Rattle.std.specs.List.{filter_map}
use Rattle.std.proofs.lemmas.List.{take_all}
use Rattle.std.proofs.lemmas.Fn.{filter_same}
use Rattle.ospf_plan.specs.Ends.{holder_in}
use Rattle.ospf_plan.specs.Wires.{has_wire, is_wired, wire_key}
use Rattle.ospf_plan.specs.Unheard.{is_outward, is_plugged, near_in, outward_wire, to_hear, unheard}
use Rattle.ospf_plan.proofs.Steps.{filter_map_more}
use Rattle.ospf_plan.proofs.UnheardLemmas.{near_is}
use Rattle.ospf_plan.proofs.unheard.push_unheard.Goals as goal

pub loop-end-preserved : goal.loop-end-preserved
loop-end-preserved c =
    let ends = c.deref-end-items.result.now in
    let i = c.loop-end.end-index in
    let x = c.end-item.result in
    let h = unheard (near_in c.in_ok-near.near) (has_wire c.args.wired.now) in
    let within : i < length ends = omega arith in
    let old = c.args.findings.now.items in
    let before = filter_map h (take i ends) in
    let last = option_to_list (h x) in
    c.in_ok-push_one.ensures
    ∙ ap (λ o. c.loop-end.findings.items ++ option_to_list o) c.unheard.ensures
    ∙ ap (λ fs. fs ++ last) c.loop-end.invariant
    ∙ append_assoc old before last
    ∙ ap (λ y. old ++ (before ++ option_to_list (h y))) c.end-item.is
    ∙ ap (λ fs. old ++ fs) (sym (filter_map_more ends i x within h))

pub returns : goal.returns
returns c =
    let at = holder_in c.args.ports.now in
    let wired = has_wire c.args.wired.now in
    let wires = c.args.wires.now in
    let some = filter (is_plugged at) c.args.ends.now in
    let old = c.args.findings.now.items in
    let near = c.in_ok-near.near in
    let ends = c.deref-end-items.result.now in
    let i = c.loop-end.end-index in
    let kept : c.retain.new.self.items ≡ some =
    filter_same _ (is_plugged at) _ (λ x b f' k. search rules) _ _ c.retain.ensures.filtered ∙ ap (λ es. filter (is_plugged at) es) c.in_ok-plugged.ensures.items in
    let out : c.deref-2.result.now ≡ filter_map (outward_wire at) wires = c.deref-2.ensures.value ∙ c.in_ok-outward.ensures in
    let is : ends ≡ some = c.deref-end-items.ensures.value ∙ kept in
    c.loop-end.invariant
    ∙ ap (λ es. old ++ filter_map (unheard (near_in near) wired) es) (take_all i ends c.loop-end-test.false)
    ∙ ap (λ n. old ++ filter_map (unheard n wired) ends) (near_is near (λ e. is_wired c.deref-2.result.now (wire_key e 0)) c.deref.result.now c.in_ok-near.ensures)
    ∙ ap (λ ws. old ++ filter_map (unheard (to_hear (λ e. is_wired ws (wire_key e 0)) c.deref.result.now) wired) ends) out
    ∙ ap (λ es. old ++ filter_map (unheard (to_hear (is_outward at wires) es) wired) ends) (c.deref.ensures.value ∙ kept)
    ∙ ap (λ es. old ++ filter_map (unheard (to_hear (is_outward at wires) some) wired) es) is
