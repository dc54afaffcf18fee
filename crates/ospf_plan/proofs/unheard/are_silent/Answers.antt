use Rattle.std.proofs.Common.{rules, ◌≡◌, ◌∙◌, ◌||◌, ap, not, sym}
use Rattle.ospf_plan.specs.Ends.{port_of}
use Rattle.ospf_plan.specs.Wires.{has_wire, wire_key}
use Rattle.ospf_plan.proofs.unheard.are_silent.Goals.{then-sends, else-sends}
use Rattle.ospf_plan.proofs.unheard.are_silent.Goals as goal

pub returns : goal.returns
returns c =
    let one = c.args.one.now in
    let other = c.args.other.now in
    let has = has_wire c.args.wired.now in
    let sends : c.contains-sends.result ≡ has (wire_key one (port_of other)) = search (rules, c.contains-sends.ensures, c.key_of.ensures, c.port_of.ensures) in
    let hears : c.contains-hears.result ≡ has (wire_key other (port_of one)) = search (rules, c.contains-hears.ensures, c.key_of-2.ensures, c.port_of-2.ensures) in
    ap not (elim c.if-sends.branch [
      | then-sends w ↦ w.result-is ∙ w.if-sends.true ∙ ap (λ b. b || has (wire_key other (port_of one))) (sym w.if-sends.true ∙ sends)
      | else-sends w ↦ w.result-is ∙ hears ∙ ap (λ b. b || has (wire_key other (port_of one))) (sym w.if-sends.false ∙ sends)
    ])
