use Rattle.std.proofs.Common.{◌≡◌, ◌∙◌, ap, rules, sym, filter, Option}
use Rattle.ospf_base.specs.declared.interface.InterfaceKind.{InterfaceKind}
use Rattle.ospf_base.specs.declared.interface.InterfaceKind.TheVariants.{PointToPoint, Broadcast}
use Rattle.ospf_plan.specs.declared.ends.LinkEnd.{LinkEnd}
use Rattle.ospf_plan.specs.Ends.{end_in, first_on, is_slow_end, network_key, others}
use Rattle.ospf_plan.specs.Findings.{beside}
use Rattle.ospf_plan.proofs.maps.Maps.delayed.Goals as goal

pub returns-in-PointToPoint : goal.returns-in-PointToPoint
returns-in-PointToPoint c = λ ends are.
    let q = network_key c.args.end.now.address in
    let by_kind : InterfaceKind → Option LinkEnd = λ k. elim k [
      | PointToPoint ↦ first_on (filter is_slow_end ends) q
      | Broadcast ↦ beside (first_on ends q) (first_on (others ends) q) c.args.end.now
    ] in
    let found : c.end_in.result ≡ end_in c.args.self.now.slow c.network_of-network.result = search rules in
    found ∙ ap (end_in c.args.self.now.slow) c.network_of-network.ensures ∙ are.slow q ∙ ap by_kind (sym c.in-PointToPoint.is)

pub returns-in-Broadcast : goal.returns-in-Broadcast
returns-in-Broadcast c = λ ends are.
    let e = c.args.end.now in
    let q = network_key e.address in
    let by_kind : InterfaceKind → Option LinkEnd = λ k. elim k [
      | PointToPoint ↦ first_on (filter is_slow_end ends) q
      | Broadcast ↦ beside (first_on ends q) (first_on (others ends) q) e
    ] in
    let first : c.end_in-in-Broadcast.result ≡ end_in c.args.self.now.firsts c.network_of-network.result = search rules in
    c.beside.ensures
    ∙ ap (λ o. beside o c.end_in-in-Broadcast-2.result e) (first ∙ ap (end_in c.args.self.now.firsts) c.network_of-network.ensures ∙ are.firsts q)
    ∙ ap (λ o. beside (first_on ends q) o e) (c.end_in-in-Broadcast-2.ensures ∙ ap (end_in c.args.self.now.seconds) c.network_of-network.ensures ∙ are.seconds q)
    ∙ ap by_kind (sym c.in-Broadcast.is)
