use Rattle.std.proofs.Common.{◌≡◌, ◌++◌, ◌+◌, ◌≤◌, rules, of_calls, ap, false, true, length, ltb, List, drop, sym, subst, take, ◌∙◌}
use Rattle.std.specs.List.Sorted.{IsPartitionPoint}
use Rattle.std.proofs.lemmas.List.Sorted.{IsPartitionPoint-from_clause, IsPartitionedBy-ltb}
use Rattle.ospf_graph.specs.declared.route.Route.{Route}
use Rattle.ospf_spf.proofs.OrderLemmas.{changed_table}
use Rattle.ospf_spf.proofs.PutLemmas.{codes_in_order, either, made_new, made_there, then_ok}
use Rattle.ospf_spf.specs.Changes.{changed, prefix_of, put_of}
use Rattle.ospf_spf.specs.Reach.{prefix_code}
use Rattle.ospf_spf.specs.Table.{IsInOrder}
use Rattle.ospf_spf.proofs.table.RouteTable.change.Goals as goal
use Rattle.ospf_spf.proofs.table.RouteTable.change.Goals.{Then-is_route_to, Else-is_route_to}

there : (c : Then-is_route_to) → take c.partition_point-place.result c.self.inside.routes.items ++ (put_of c.args.change ++ drop (c.partition_point-place.result + 1) c.self.inside.routes.items) ≡ changed c.self.inside.routes.items c.args.change
there c =
    let old = c.self.inside.routes.items in
    let place = c.partition_point-place.result in
    let at = rw c.deref-2.ensures.value at (c.is_route_to.ensures.0 c.if-is_route_to.true) in
    made_there old c.self.invariant.in_order c.args.change place at.0 (λ d. at.1 d ∙ c.prefix-prefix.ensures)

new : (c : Else-is_route_to) → take c.partition_point-place.result c.self.inside.routes.items ++ (put_of c.args.change ++ drop c.partition_point-place.result c.self.inside.routes.items) ≡ changed c.self.inside.routes.items c.args.change
new c =
    let old = c.self.inside.routes.items in
    let place = c.partition_point-place.result in
    let key = λ (r : Route). prefix_code r.prefix in
    let n = c.prefix_order-order.result in
    let n_is : n ≡ prefix_code (prefix_of c.args.change) = c.prefix_order-order.ensures ∙ ap prefix_code c.prefix-prefix.ensures in
    let codes = subst (λ (rs : List Route). IsInOrder rs) (sym c.deref.ensures.value) c.self.invariant in
    let p = IsPartitionPoint-from_clause (λ r. ltb (key r) n) _ _ c.partition_point-place.ensures.partitioned (IsPartitionedBy-ltb key _ n (codes_in_order _ codes.in_order)) (λ a r q k. search (rules, of_calls)) in
    let point = subst (λ m. IsPartitionPoint (λ (r : Route). ltb (prefix_code r.prefix) m ≡ true) (λ (r : Route). ltb (prefix_code r.prefix) m ≡ false) old place) n_is (rw c.deref.ensures.value at p) in
    let bound : place ≤ length old = rw c.deref.ensures.value at c.partition_point-place.ensures.bound in
    made_new old c.self.invariant.in_order c.args.change place bound point
    (λ lt at. let yes = c.is_route_to.ensures.1 (rw c.deref-2.ensures.value (lt, λ d. at d ∙ sym c.prefix-prefix.ensures)) in let no = c.if-is_route_to.false in cc)

pub invariant_of-self : goal.invariant_of-self
invariant_of-self c =
    subst (λ (rs : List Route). IsInOrder rs) (sym (c.replace_at.ensures.items ∙ there (goal.at.invariant_of-self c).Then-is_route_to)) (changed_table c.self.inside.routes.items c.args.change c.self.invariant c.requires)

pub invariant_of-self-else-is_route_to : goal.invariant_of-self-else-is_route_to
invariant_of-self-else-is_route_to c =
    either c.add_at.result _ _ c.add_at.ensures.items c.add_at.ensures.err
    (λ e. subst (λ (rs : List Route). IsInOrder rs) (sym (e ∙ new (goal.at.invariant_of-self-else-is_route_to c).Else-is_route_to)) (changed_table c.self.inside.routes.items c.args.change c.self.invariant c.requires))
    (λ e. subst (λ (rs : List Route). IsInOrder rs) (sym e) c.self.invariant)

pub returns-then-is_route_to-clause-done : goal.returns-then-is_route_to-clause-done
returns-then-is_route_to-clause-done c =
    c.replace_at.ensures.items ∙ there (goal.at.returns-then-is_route_to-clause-done c).Then-is_route_to ∙ ap (λ (rs : List Route). changed rs c.args.change) c.self.view_is

pub returns-else-is_route_to-clause-done : goal.returns-else-is_route_to-clause-done
returns-else-is_route_to-clause-done c =
    then_ok c.add_at.result _ _ c.add_at.ensures.items
    (λ e. e ∙ new (goal.at.returns-else-is_route_to-clause-done c).Else-is_route_to ∙ ap (λ (rs : List Route). changed rs c.args.change) c.self.view_is)
