use Rattle.std.proofs.Common.{◌∙◌, sym}
use Rattle.ospf_graph.specs.EdgeLists.Index.{LinkNames}
use Rattle.ospf_graph.proofs.EdgeLists.AddsLemmas.{adds_push}
use Rattle.ospf_graph.proofs.edges.index.push_link.Goals as goal

pub returns-in_ok-push-in-PointToPoint : goal.returns-in_ok-push-in-PointToPoint
returns-in_ok-push-in-PointToPoint c =
    rw c.in_ok-push-in-PointToPoint.ensures.items
    (adds_push (LinkNames c.args.router c.args.link) c.args.pairs.now.items c.pair_order.result
    (λ q. ((λ h. c.pair_order.ensures ∙ sym h.1), (λ same. (c.in-PointToPoint.is, sym same ∙ c.pair_order.ensures)))))
