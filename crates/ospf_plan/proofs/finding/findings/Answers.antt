use Rattle.std.proofs.Common.{rules, ◌≡◌, ◌++◌, ◌∙◌, ℕ, Bool, ap, subst}
use Rattle.std.specs.List.{filter_map}
use Rattle.ospf_plan.specs.Ends.{AreMaps, ends_of, first_at_port, holder_in}
use Rattle.ospf_plan.specs.Findings.{found_in}
use Rattle.ospf_plan.specs.Parts.{AreReached, apart_in}
use Rattle.ospf_plan.specs.Unheard.{unheard_by, unheard_in}
use Rattle.ospf_plan.specs.Wires.{AreHeard, has_wire, is_wired, wire_fault, wire_faults_in, wires_of}
use Rattle.ospf_plan.proofs.UnheardLemmas.{one_function}
use Rattle.ospf_plan.proofs.finding.findings.Goals as goal

pub returns : goal.returns
returns c =
    let ends = ends_of c.args.configs.now in
    let wires = wires_of c.args.configs.now in
    let has = has_wire c.in_ok-wired.wired in
    let ports = holder_in c.in_ok-maps.maps.ports in
    let maps : AreMaps c.in_ok-maps.maps ends = search rules in
    let hears : AreHeard c.in_ok-wired.wired wires = search rules in
    let one : c.in_ok-findings.findings.items ≡ found_in ends = search rules in
    let two : c.push_wire_faults.new.findings.items ≡ c.in_ok-findings.findings.items ++ filter_map (wire_fault ports has) wires = search rules in
    let three : c.push_unheard.new.findings.items ≡ c.push_wire_faults.new.findings.items ++ unheard_by ports has wires ends =
    c.in_ok-push_unheard.ensures
    ∙ ap (λ ws. c.push_wire_faults.new.findings.items ++ unheard_by ports has ws c.deref-5.result.now) (c.deref-6.ensures.value ∙ c.in_ok-wires.ensures)
    ∙ ap (λ es. c.push_wire_faults.new.findings.items ++ unheard_by ports has wires es) (c.deref-5.ensures.value ∙ c.in_ok-ends.ensures) in
    let four : (reached : ℕ → Bool) × AreReached ends reached × (c.push_apart.new.findings.items ≡ c.push_unheard.new.findings.items ++ apart_in reached ends) =
    subst (λ es. (reached : ℕ → Bool) × AreReached es reached × (c.push_apart.new.findings.items ≡ c.push_unheard.new.findings.items ++ apart_in reached es))
    (c.deref-7.ensures.value ∙ c.in_ok-ends.ensures) c.in_ok-push_apart.ensures in
    let (reached, are, told) = four in
    let at : ports ≡ first_at_port ends = one_function ports (first_at_port ends) maps.ports in
    let heard : has ≡ is_wired wires = one_function has (is_wired wires) hears in
    let before = found_in ends ++ wire_faults_in ends wires in
    let twos : c.push_wire_faults.new.findings.items ≡ before =
    two ∙ ap (λ fs. fs ++ filter_map (wire_fault ports has) wires) one
    ∙ ap (λ a. found_in ends ++ filter_map (wire_fault a has) wires) at
    ∙ ap (λ h. found_in ends ++ filter_map (wire_fault (first_at_port ends) h) wires) heard in
    let threes : c.push_unheard.new.findings.items ≡ before ++ unheard_in ends wires =
    three ∙ ap (λ fs. fs ++ unheard_by ports has wires ends) twos
    ∙ ap (λ a. before ++ unheard_by a has wires ends) at
    ∙ ap (λ h. before ++ unheard_by (first_at_port ends) h wires ends) heard in
    record { reached = reached; are_reached = are; told = told ∙ ap (λ fs. fs ++ apart_in reached ends) threes }
