use Rattle.std.proofs.Common.{inr}
use Rattle.std.proofs.lemmas.Bool.{iff_false}
use Rattle.toml.specs.View.{table_view}
use Rattle.ospf_config.proofs.FaultLemmas.{least_prefix, least_dead, least_unknown, no_fault_at_all}
use Rattle.ospf_config.proofs.read.config_by_rules.Goals as goal

pub returns-then-same-clause-fault : goal.returns-then-same-clause-fault
returns-then-same-clause-fault c = inr (least_prefix (table_view c.args.table.now) c.requires (c.in_ok-same.ensures.ok.0 c.if-same.true))

pub returns-then-is_any_dead-clause-fault : goal.returns-then-is_any_dead-clause-fault
returns-then-is_any_dead-clause-fault c =
    inr (least_dead (table_view c.args.table.now) c.requires (iff_false c.in_ok-same.ensures.ok c.if-same.false) (c.is_any_dead.ensures.0 c.if-is_any_dead.true))

pub returns-then-is_any_unknown-clause-fault : goal.returns-then-is_any_unknown-clause-fault
returns-then-is_any_unknown-clause-fault c =
    inr (least_unknown (table_view c.args.table.now) c.requires (iff_false c.in_ok-same.ensures.ok c.if-same.false) (iff_false c.is_any_dead.ensures c.if-is_any_dead.false)
    (c.is_any_unknown.ensures.0 c.if-is_any_unknown.true))

pub config_at-requires : goal.config_at-requires
config_at-requires c =
    no_fault_at_all (table_view c.args.table.now) c.requires (iff_false c.in_ok-same.ensures.ok c.if-same.false) (iff_false c.is_any_dead.ensures c.if-is_any_dead.false)
    (iff_false c.is_any_unknown.ensures c.if-is_any_unknown.false)

pub returns-clause-free : goal.returns-clause-free
returns-clause-free c =
    no_fault_at_all (table_view c.args.table.now) c.requires (iff_false c.in_ok-same.ensures.ok c.if-same.false) (iff_false c.is_any_dead.ensures c.if-is_any_dead.false)
    (iff_false c.is_any_unknown.ensures c.if-is_any_unknown.false)
