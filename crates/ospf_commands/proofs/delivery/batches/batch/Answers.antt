use Rattle.ospf_commands.proofs.Deliveries.BatchFacts.{batch_is}
use Rattle.ospf_world.proofs.ExactFacts.{told_exact}
use Rattle.ospf_commands.proofs.delivery.batches.batch.Goals as goal

pub returns-clause-batch : goal.returns-clause-batch
returns-clause-batch g c = batch_is _ _ _ c.batch_of.ensures.batch

pub returns-clause-exact : goal.returns-clause-exact
returns-clause-exact g c = told_exact _ _ _ _ c.batch_of.ensures.told c.reached_exactly.ensures
