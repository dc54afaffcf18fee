use Rattle.std.proofs.Common.{inr}
use Rattle.toml.specs.View.{table_view}
use Rattle.ospf_config.proofs.FaultLemmas.{least_key}
use Rattle.ospf_config.proofs.read.config_of.Goals as goal

pub returns-in-Some-clause-fault : goal.returns-in-Some-clause-fault
returns-in-Some-clause-fault c = inr (least_key (table_view c.args.table.now) c.in-Some.fault c.in-Some.ensures)
