use Rattle.std.proofs.Common.{rules, of_calls, ◌≡◌, ◌<◌, ◌≤◌, ℕ, false, true, get_or, ltb, ltb-true, arith, subst, List}
use Rattle.std.specs.List.Sorted.{IsPartitionPoint}
use Rattle.std.proofs.lemmas.List.Sorted.{IsPartitionPoint-from_clause, IsPartitionedBy-ltb}
use Rattle.ospf_base.specs.declared.prefix.Prefix.{Prefix}
use Rattle.ospf_base.specs.Prefixes.{IsPrefixBefore}
use Rattle.ospf_graph.specs.declared.route.Route.{Route}
use Rattle.ospf_spf.proofs.Groups.{code_before}
use Rattle.ospf_spf.proofs.PutLemmas.{codes_in_order}
use Rattle.ospf_spf.specs.Reach.{prefix_code}
use Rattle.ospf_fib.specs.PrefixIndex.Replaced.{AreRoutesBefore}
use Rattle.ospf_fib.proofs.index.replace.routes_before.Goals as goal

code_rises : (p q : Prefix) → IsPrefixBefore p q → prefix_code p < prefix_code q
code_rises p q before = let a = p.short in let b = q.short in grind arith

not_less : (a b : ℕ) → ltb a b ≡ false → b ≤ a
not_less a b h = grind arith

-- where the codes of the prefixes part, the prefixes do
parted : (routes : List Route) (p : Prefix) (place : ℕ)
    → IsPartitionPoint (λ (r : Route). ltb (prefix_code r.prefix) (prefix_code p) ≡ true) (λ (r : Route). ltb (prefix_code r.prefix) (prefix_code p) ≡ false) routes place
    → AreRoutesBefore routes p place
parted routes p place point = record {
  before = λ k d less lt. code_before (get_or routes k d).prefix p (ltb-true (prefix_code (get_or routes k d).prefix) (prefix_code p) (point.0 k d (omega arith) less));
  behind = λ k d le lt before.
      let low : prefix_code p ≤ prefix_code (get_or routes k d).prefix = not_less (prefix_code (get_or routes k d).prefix) (prefix_code p) (point.1 k d le lt) in
      let rises = code_rises (get_or routes k d).prefix p before in
      omega arith;
}

pub returns : goal.returns
returns c =
    let routes = c.args.routes.now in
    let place = c.partition_point.result in
    let key = λ (r : Route). prefix_code r.prefix in
    let n = c.prefix_order-order.result in
    let point = IsPartitionPoint-from_clause (λ r. ltb (key r) n) _ _ c.partition_point.ensures.partitioned (IsPartitionedBy-ltb key _ n (codes_in_order routes c.requires)) (λ a r q k. search (rules, of_calls)) in
    parted routes c.args.prefix place
    (subst (λ m. IsPartitionPoint (λ (r : Route). ltb (prefix_code r.prefix) m ≡ true) (λ (r : Route). ltb (prefix_code r.prefix) m ≡ false) routes place) c.prefix_order-order.ensures point)
