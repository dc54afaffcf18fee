use Rattle.serde_json.specs.View.{view}
use Rattle.ospf_graph.specs.EdgeLists.Listed.{advertisements_of}
use Rattle.ospf_inspect.proofs.Floats.{of_table}
use Rattle.ospf_inspect.proofs.tables.table_json.Goals as goal

pub json_line-requires : goal.json_line-requires
json_line-requires c = of_table (advertisements_of c.args.listing.now) c.args.router.0 (view c.in_ok-value.value) c.in_ok-value.ensures
