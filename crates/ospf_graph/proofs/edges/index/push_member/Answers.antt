use Rattle.std.proofs.Common.{◌∙◌, sym}
use Rattle.ospf_graph.specs.EdgeLists.Index.{NamedOn}
use Rattle.ospf_graph.proofs.EdgeLists.AddsLemmas.{adds_push}
use Rattle.ospf_graph.proofs.edges.index.push_member.Goals as goal

pub returns : goal.returns
returns c =
    rw c.in_ok-push.ensures.items
    (adds_push (NamedOn c.args.id c.args.member) c.args.pairs.now.items c.pair_order.result (λ q. ((λ is. c.pair_order.ensures ∙ sym is), (λ same. sym same ∙ c.pair_order.ensures))))
