use Rattle.std.proofs.Common.{◌≡◌}
use Rattle.std.specs.Prelude.{not}
use Rattle.std.proofs.lemmas.Result.{IfOk-weaker}
use Rattle.serde_json.specs.View.{view}
use Rattle.ospf_graph.specs.declared.graph.Vertex.TheVariants as vertex
use Rattle.ospf_inspect.specs.Values.{member_data}
use Rattle.ospf_inspect.proofs.ValueLemmas.{one_way_unless}
use Rattle.ospf_inspect.proofs.values.attached_router.Goals as goal

pub returns : goal.returns
returns c = λ adverts at.
    IfOk-weaker c.member_value.result (λ value. view value ≡ member_data c.args.router (not c.joins-both_ways.result)) _ (λ value is. (
      not c.joins-both_ways.result,
      one_way_unless adverts (vertex.Network c.args.network) (vertex.Router c.args.router) c.args.edges.now c.joins-both_ways.result at c.joins-both_ways.ensures,
      is,
    )) c.member_value.ensures
