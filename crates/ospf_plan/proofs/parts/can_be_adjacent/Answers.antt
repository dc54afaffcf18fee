use Rattle.std.proofs.Common.{◌≡◌, ◌∙◌, ap, rules, is_some, not, sym, Bool}
use Rattle.ospf_base.specs.declared.interface.InterfaceKind.{InterfaceKind}
use Rattle.ospf_base.specs.declared.interface.InterfaceKind.TheVariants.{PointToPoint, Broadcast}
use Rattle.ospf_plan.specs.Ends.{end_in, network_key}
use Rattle.ospf_plan.specs.Parts.{can_be_adjacent, link_of, linked_in}
use Rattle.ospf_plan.proofs.parts.can_be_adjacent.Goals as goal

pub returns-in-Broadcast : goal.returns-in-Broadcast
returns-in-Broadcast c =
    let e = c.args.end.now in
    let by_kind : InterfaceKind → Bool = λ k. elim k [
      | PointToPoint ↦ not (is_some (end_in c.args.thirds.now (network_key e.address)))
      | Broadcast ↦ is_some (linked_in c.args.led.now (link_of e))
    ] in
    let led : c.contains_key.result ≡ can_be_adjacent (end_in c.args.thirds.now) (linked_in c.args.led.now) e =
    c.contains_key.ensures
    ∙ ap (λ k. is_some (linked_in c.args.led.now k)) c.link_of.ensures
    ∙ ap by_kind (sym c.in-Broadcast.is) in
    search rules
