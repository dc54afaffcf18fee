use Rattle.std.proofs.Common.{◌∙◌, List, [], subst}
use Rattle.ospf_graph.specs.EdgeLists.Listed.{advertisements_of}
use Rattle.ospf_graph.specs.declared.graph.Edge.{Edge}
use Rattle.ospf_graph.specs.declared.graph.Vertex.TheVariants.{Router}
use Rattle.ospf_spf.specs.IncrementalSpf.Shrinking.{TakesEdges}
use Rattle.ospf_whatif.proofs.OutageLemmas.{lead_back, same_as_before, tree_left, tree_over, tree_unused}
use Rattle.ospf_whatif.proofs.WithoutLemmas.{IfOk-map}
use Rattle.ospf_whatif.proofs.root.KeptRoot.effect.Goals as goal

pub returns-then-not-is_used : goal.returns-then-not-is_used
returns-then-not-is_used c =
    let A = advertisements_of c.args.listing.now in
    let o = c.args.outage.now in
    let root = c.args.self.now.root in
    let paths = c.args.self.now.paths in
    let was = tree_over A root paths c.requires.kept.root_is c.requires.kept.edges_are c.requires.kept.tree in
    let unused = rw c.deref.ensures.value at c.is_used.ensures c.if-not-is_used.true in
    IfOk-map c.changes_over.result _ _ c.changes_over.ensures
    (λ changes h. h root paths (record { was = was; now = tree_unused A o c.requires.outage (Router root) paths was unused; same = same_as_before [] paths }) c.requires.table)

pub without-requires : goal.without-requires
without-requires c = record { both_ways = lead_back (advertisements_of c.args.listing.now) c.args.self.now.paths.edges c.requires.kept.edges_are }

pub returns : goal.returns
returns c =
    let A = advertisements_of c.args.listing.now in
    let o = c.args.outage.now in
    let root = c.args.self.now.root in
    let paths = c.args.self.now.paths in
    let left = c.in_ok-left.left in
    let changed = c.without.new.changed.items in
    let was = tree_over A root paths c.requires.kept.root_is c.requires.kept.edges_are c.requires.kept.tree in
    let takes = subst (λ (es : List Edge). TakesEdges es paths.edges left.edges) c.deref-2.ensures.value c.in_ok-left.ensures.edges in
    let root_is = c.in_ok-left.ensures.root ∙ c.requires.kept.root_is in
    let now = tree_left A o c.requires.outage root paths left c.requires.kept.edges_are takes root_is c.in_ok-left.ensures.tree in
    let same = c.in_ok-left.ensures.same in
    let effect = rw c.deref-3.ensures.value at c.changes_over-2.ensures in
    IfOk-map c.changes_over-2.result _ _ effect (λ changes h. h root paths (record { was = was; now = now; same = same }) c.requires.table)
