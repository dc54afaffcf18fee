use Rattle.std.proofs.Common.{◌≡◌, codes, subst, sym}
use Rattle.std.specs.Prelude.{not}
use Rattle.std.proofs.lemmas.Result.{IfOk-weaker}
use Rattle.serde_json.specs.View.{view}
use Rattle.ospf_graph.specs.declared.graph.Vertex.TheVariants as vertex
use Rattle.ospf_lsa.specs.declared.link.LinkKind.{LinkKind}
use Rattle.ospf_inspect.specs.Values.{TellsKind, way_data}
use Rattle.ospf_inspect.proofs.ValueLemmas.{one_way_unless}
use Rattle.ospf_inspect.proofs.values.link_value.Goals as goal

pub returns-in-PointToPoint : goal.returns-in-PointToPoint
returns-in-PointToPoint c = λ adverts at.
    IfOk-weaker c.way_value.result (λ value. view value ≡ way_data (codes "router") c.args.link (not c.joins-both_ways.result)) _ (λ value is. subst (λ (k : LinkKind). TellsKind adverts c.args.router c.args.link k (view value)) (sym c.in-PointToPoint.is) (
      not c.joins-both_ways.result,
      one_way_unless adverts (vertex.Router c.args.router) _ c.args.edges.now c.joins-both_ways.result at c.joins-both_ways.ensures,
      is,
    )) c.way_value.ensures

pub returns-in-Transit : goal.returns-in-Transit
returns-in-Transit c = λ adverts at.
    IfOk-weaker c.way_value-in-Transit.result (λ value. view value ≡ way_data (codes "network") c.args.link (not c.joins-both_ways-in-Transit.result)) _ (λ value is. subst (λ (k : LinkKind). TellsKind adverts c.args.router c.args.link k (view value)) (sym c.in-Transit.is) (
      not c.joins-both_ways-in-Transit.result,
      one_way_unless adverts (vertex.Router c.args.router) _ c.args.edges.now c.joins-both_ways-in-Transit.result at c.joins-both_ways-in-Transit.ensures,
      is,
    )) c.way_value-in-Transit.ensures
