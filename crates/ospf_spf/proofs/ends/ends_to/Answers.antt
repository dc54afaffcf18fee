use Rattle.std.proofs.Common.{rules, of_calls, ap, sym, ◌∙◌, ltb, leb, arith}
use Rattle.std.proofs.lemmas.List.Sorted.{IsPartitionPoint-from_clause, IsPartitionedBy-leb, IsPartitionedBy-ltb}
use Rattle.ospf_graph.specs.declared.edges.end.End.{End}
use Rattle.ospf_graph.proofs.Runs.{in_run, of_run, run_of_points}
use Rattle.ospf_spf.specs.Reach.{prefix_code}
use Rattle.ospf_spf.proofs.Groups.{code_same}
use Rattle.ospf_spf.proofs.ends.ends_to.Goals as goal

pub returns-then-from-to-clause-part : goal.returns-then-from-to-clause-part
returns-then-from-to-clause-part c = λ e m.
    let key = λ (e : End). prefix_code e.prefix in
    let n = c.prefix_order-order.result in
    let p = IsPartitionPoint-from_clause (λ e. ltb (key e) n) _ _ c.partition_point-from.ensures.partitioned (IsPartitionedBy-ltb key _ n c.requires) (λ a r q k. search (rules, of_calls)) in
    let q = IsPartitionPoint-from_clause (λ e. leb (key e) n) _ _ c.partition_point-to.ensures.partitioned (IsPartitionedBy-leb key _ n c.requires) (λ a r q k. search (rules, of_calls)) in
    let run = run_of_points key c.args.ends.now n c.partition_point-from.result c.partition_point-to.result c.partition_point-to.ensures.bound p q in
    (of_run key c.args.ends.now n _ _ run e c.if-from-to.true m).1

pub returns-then-from-to-clause-all : goal.returns-then-from-to-clause-all
returns-then-from-to-clause-all c = λ e m same.
    let key = λ (e : End). prefix_code e.prefix in
    let n = c.prefix_order-order.result in
    let p = IsPartitionPoint-from_clause (λ e. ltb (key e) n) _ _ c.partition_point-from.ensures.partitioned (IsPartitionedBy-ltb key _ n c.requires) (λ a r q k. search (rules, of_calls)) in
    let q = IsPartitionPoint-from_clause (λ e. leb (key e) n) _ _ c.partition_point-to.ensures.partitioned (IsPartitionedBy-leb key _ n c.requires) (λ a r q k. search (rules, of_calls)) in
    let run = run_of_points key c.args.ends.now n c.partition_point-from.result c.partition_point-to.result c.partition_point-to.ensures.bound p q in
    (in_run key c.args.ends.now n _ _ run e (ap prefix_code same ∙ sym c.prefix_order-order.ensures) m).1

pub returns-then-from-to-clause-only : goal.returns-then-from-to-clause-only
returns-then-from-to-clause-only c = λ e m.
    let key = λ (e : End). prefix_code e.prefix in
    let n = c.prefix_order-order.result in
    let p = IsPartitionPoint-from_clause (λ e. ltb (key e) n) _ _ c.partition_point-from.ensures.partitioned (IsPartitionedBy-ltb key _ n c.requires) (λ a r q k. search (rules, of_calls)) in
    let q = IsPartitionPoint-from_clause (λ e. leb (key e) n) _ _ c.partition_point-to.ensures.partitioned (IsPartitionedBy-leb key _ n c.requires) (λ a r q k. search (rules, of_calls)) in
    let run = run_of_points key c.args.ends.now n c.partition_point-from.result c.partition_point-to.result c.partition_point-to.ensures.bound p q in
    code_same e.prefix c.args.prefix ((of_run key c.args.ends.now n _ _ run e c.if-from-to.true m).0 ∙ c.prefix_order-order.ensures)

pub returns-else-from-to-clause-only : goal.returns-else-from-to-clause-only
returns-else-from-to-clause-only c = λ e m. absurd (let low = m.1 in omega arith)

pub returns-else-from-to-clause-part : goal.returns-else-from-to-clause-part
returns-else-from-to-clause-part c = λ e m. absurd (let low = m.1 in omega arith)

pub returns-else-from-to-clause-all : goal.returns-else-from-to-clause-all
returns-else-from-to-clause-all c = λ e m same.
    let key = λ (e : End). prefix_code e.prefix in
    let n = c.prefix_order-order.result in
    let p = IsPartitionPoint-from_clause (λ e. ltb (key e) n) _ _ c.partition_point-from.ensures.partitioned (IsPartitionedBy-ltb key _ n c.requires) (λ a r q k. search (rules, of_calls)) in
    let q = IsPartitionPoint-from_clause (λ e. leb (key e) n) _ _ c.partition_point-to.ensures.partitioned (IsPartitionedBy-leb key _ n c.requires) (λ a r q k. search (rules, of_calls)) in
    let run = run_of_points key c.args.ends.now n c.partition_point-from.result c.partition_point-to.result c.partition_point-to.ensures.bound p q in
    absurd (let le = (in_run key c.args.ends.now n _ _ run e (ap prefix_code same ∙ sym c.prefix_order-order.ensures) m).0 in let lt = c.if-from-to.false in omega arith)
