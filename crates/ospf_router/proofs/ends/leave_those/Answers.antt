use Rattle.std.proofs.Common.{List, not, subst, sym}
use Rattle.std.proofs.lemmas.List.Kept.{IsNonDecreasingBy-filter}
use Rattle.ospf_graph.specs.declared.edges.end.End.{End}
use Rattle.ospf_graph.specs.Search.{vertex_eq}
use Rattle.ospf_router.specs.Ends.{LeavesEnds}
use Rattle.ospf_spf.specs.Spared.{AreEndsInOrder}
use Rattle.ospf_spf.specs.Reach.{prefix_code}
use Rattle.ospf_router.proofs.EndLemmas.{leaves_all, leaves_others}
use Rattle.ospf_router.proofs.ends.leave_those.Goals as goal

pub returns-then-not-are_among-clause-left : goal.returns-then-not-are_among-clause-left
returns-then-not-are_among-clause-left c =
    let old = c.args.ends.now.items in
    subst (λ (es : List End). LeavesEnds c.args.vertex c.args.at.now old es) (sym c.leave_out.ensures) (leaves_others c.args.vertex c.args.at.now old)

pub returns-then-not-are_among-clause-in_order : goal.returns-then-not-are_among-clause-in_order
returns-then-not-are_among-clause-in_order c =
    subst (λ (es : List End). AreEndsInOrder es) (sym c.leave_out.ensures)
    (IsNonDecreasingBy-filter (λ (e : End). prefix_code e.prefix) (λ (e : End). not (vertex_eq e.vertex c.args.vertex)) c.args.ends.now.items c.requires.in_order)

pub returns-else-not-are_among-clause-left : goal.returns-else-not-are_among-clause-left
returns-else-not-are_among-clause-left c =
    leaves_all c.args.vertex c.args.at.now c.args.ends.now.items c.args.were.now c.requires.were (c.are_among.ensures c.if-not-are_among.false)
