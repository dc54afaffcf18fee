use Rattle.std.proofs.Common.{◌≤◌, length}
use Rattle.std.specs.List.{All}
use Rattle.std.proofs.lemmas.List.{take_all}
use Rattle.std.proofs.lemmas.List.Elements.{All-contains}
use Rattle.ospf_graph.specs.Search.{AtIn}
use Rattle.ospf_graph.specs.declared.graph.Edge.{Edge}
use Rattle.ospf_whatif.specs.Laws.{IsOffLeastPaths}
use Rattle.ospf_whatif.proofs.OutageLemmas.{all_more}
use Rattle.ospf_whatif.proofs.root.is_used.Goals as goal

pub loop-edge-preserved : goal.loop-edge-preserved
loop-edge-preserved c =
    all_more (λ e. IsOffLeastPaths (AtIn c.args.paths.now.settled) e) c.args.edges.now c.loop-edge.edge-index _ c.loop-edge-test.true
    c.loop-edge.invariant (c.is_last.ensures c.if-is_last.false)

pub returns : goal.returns
returns c h e m =
    let end : length c.args.edges.now ≤ c.loop-edge.edge-index = c.loop-edge-test.false in
    let all : All (λ e. IsOffLeastPaths (AtIn c.args.paths.now.settled) e) c.args.edges.now = rw take_all at c.loop-edge.invariant in
    All-contains (λ (e : Edge). IsOffLeastPaths (AtIn c.args.paths.now.settled) e) c.args.edges.now e all m
