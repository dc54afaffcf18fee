use Rattle.std.proofs.Common.{◌≡◌, ◌∙◌, ap, codes, sym, subst, string_bytes}
use Rattle.std.proofs.lemmas.Result.{IfOk-weaker}
use Rattle.ospf_graph.specs.declared.graph.Vertex.TheVariants as vertex
use Rattle.ospf_lsa.specs.declared.link.LinkKind.{LinkKind}
use Rattle.ospf_inspect.specs.Lsas.{SaysOfKind, link_line}
use Rattle.ospf_inspect.specs.declared.lsas.LinkWay.{LinkWay}
use Rattle.ospf_inspect.proofs.Marks.{mark_between}
use Rattle.ospf_inspect.proofs.lsas.link_text.Goals as goal

pub returns-in-PointToPoint : goal.returns-in-PointToPoint
returns-in-PointToPoint c = λ adverts at.
    IfOk-weaker c.router_link_line.result (λ line. string_bytes line ≡ link_line (codes "router") c.way_of.result c.one_way_unless-mark.result.now) _ (λ text is. subst (λ (k : LinkKind). SaysOfKind adverts c.args.router c.args.link k (string_bytes text)) (sym c.in-PointToPoint.is) (
      c.one_way_unless-mark.result.now,
      mark_between adverts (vertex.Router c.args.router) _ c.args.edges.now c.joins.result c.one_way_unless-mark.result.now at c.joins.ensures
          c.one_way_unless-mark.ensures.both c.one_way_unless-mark.ensures.one,
      is ∙ ap (λ (w : LinkWay). link_line (codes "router") w c.one_way_unless-mark.result.now) c.way_of.ensures,
    )) c.router_link_line.ensures

pub returns-in-Transit : goal.returns-in-Transit
returns-in-Transit c = λ adverts at.
    IfOk-weaker c.network_link_line.result (λ line. string_bytes line ≡ link_line (codes "network") c.way_of-in-Transit.result c.one_way_unless-mark-in-Transit.result.now) _ (λ text is. subst (λ (k : LinkKind). SaysOfKind adverts c.args.router c.args.link k (string_bytes text)) (sym c.in-Transit.is) (
      c.one_way_unless-mark-in-Transit.result.now,
      mark_between adverts (vertex.Router c.args.router) _ c.args.edges.now c.joins-in-Transit.result c.one_way_unless-mark-in-Transit.result.now at
          c.joins-in-Transit.ensures c.one_way_unless-mark-in-Transit.ensures.both c.one_way_unless-mark-in-Transit.ensures.one,
      is ∙ ap (λ (w : LinkWay). link_line (codes "network") w c.one_way_unless-mark-in-Transit.result.now) c.way_of-in-Transit.ensures,
    )) c.network_link_line.ensures

pub returns-in-Stub : goal.returns-in-Stub
returns-in-Stub c = λ adverts at.
    IfOk-weaker c.stub_line.result _ _ (λ text is. subst (λ (k : LinkKind). SaysOfKind adverts c.args.router c.args.link k (string_bytes text)) (sym c.in-Stub.is) is) c.stub_line.ensures

pub returns-in-Virtual : goal.returns-in-Virtual
returns-in-Virtual c = λ adverts at.
    IfOk-weaker c.virtual_line.result _ _ (λ text is. subst (λ (k : LinkKind). SaysOfKind adverts c.args.router c.args.link k (string_bytes text)) (sym c.in-Virtual.is) is) c.virtual_line.ensures
