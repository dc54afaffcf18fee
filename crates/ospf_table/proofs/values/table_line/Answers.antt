use Rattle.serde_json.specs.View.{view}
use Rattle.ospf_table.proofs.ValueLemmas.{table_none}
use Rattle.ospf_table.proofs.values.table_line.Goals as goal

pub data_line-requires : goal.data_line-requires
data_line-requires c = table_none c.args.table.now c.args.root c.args.addresses.now (view c.in_ok-value.value) c.in_ok-value.ensures
