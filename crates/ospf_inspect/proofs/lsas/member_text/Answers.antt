use Rattle.std.proofs.lemmas.Result.{IfOk-weaker}
use Rattle.ospf_graph.specs.declared.graph.Vertex.TheVariants as vertex
use Rattle.ospf_inspect.proofs.Marks.{mark_between}
use Rattle.ospf_inspect.proofs.lsas.member_text.Goals as goal

pub returns : goal.returns
returns c = λ adverts at.
    IfOk-weaker c.member_line.result _ _ (λ text is. (
      c.one_way_unless.result.now,
      mark_between adverts (vertex.Network c.args.network) (vertex.Router c.args.router) c.args.edges.now c.joins-both_ways.result c.one_way_unless.result.now at
          c.joins-both_ways.ensures c.one_way_unless.ensures.both c.one_way_unless.ensures.one,
      is,
    )) c.member_line.ensures
