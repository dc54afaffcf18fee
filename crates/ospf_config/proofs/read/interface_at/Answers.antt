use Rattle.std.proofs.Common.{arith}
use Rattle.toml.specs.View.{table_view}
use Rattle.ospf_config.proofs.IntegerLemmas.{alive}
use Rattle.ospf_config.proofs.read.interface_at.Goals as goal

pub invariant_of-result-clause-dead_over_hello : goal.invariant_of-result-clause-dead_over_hello
invariant_of-result-clause-dead_over_hello c =
    let over = alive (table_view c.args.table.now) c.in_ok-hello.hello c.in_ok-dead.dead c.requires c.in_ok-hello.ensures.reads c.in_ok-dead.ensures.reads in
    omega arith
