use Rattle.std.proofs.Common.{◌<◌, ◌^◌, ap, subst}
use Rattle.std.specs.List.{Contains}
use Rattle.std.specs.List.Sorted.{IsPermutation}
use Rattle.std.proofs.lemmas.List.Sorted.{All-permutation}
use Rattle.ospf_graph.specs.Paths.{AreLeastOver, IsTreeOver}
use Rattle.ospf_graph.specs.Reached.{settled_of, starts_of}
use Rattle.ospf_graph.specs.Search.{AtIn, StartsIn}
use Rattle.ospf_graph.proofs.SearchState.{tree_sorted}
use Rattle.ospf_graph.proofs.TreeLemmas.{are_least}
use Rattle.ospf_spf.proofs.incremental.kept.KeptPaths.shortest.Goals as goal

pub returns-clause-tree : goal.returns-clause-tree
returns-clause-tree c =
    let rs = c.self.inside.found.reached.items in
    subst (λ k. IsTreeOver k.edges k.root c.in_ok-paths.paths) c.self.view_is
    (tree_sorted c.self.inside.edges.items c.self.inside.root (settled_of rs) c.in_ok-paths.paths.settled.items (starts_of rs) c.in_ok-paths.paths.starts.items
    (rw c.deref.ensures.value at c.in_ok-paths.ensures.settled) (rw c.deref.ensures.value at c.in_ok-paths.ensures.starts) c.self.invariant.tree)

pub returns-clause-least : goal.returns-clause-least
returns-clause-least c =
    let rs = c.self.inside.found.reached.items in
    subst (λ k. AreLeastOver k.edges k.root c.in_ok-paths.paths) c.self.view_is
    (are_least (Contains c.self.inside.edges.items) c.self.inside.root (AtIn c.in_ok-paths.paths.settled.items) (StartsIn c.in_ok-paths.paths.starts.items)
    (tree_sorted c.self.inside.edges.items c.self.inside.root (settled_of rs) c.in_ok-paths.paths.settled.items (starts_of rs) c.in_ok-paths.paths.starts.items
    (rw c.deref.ensures.value at c.in_ok-paths.ensures.settled) (rw c.deref.ensures.value at c.in_ok-paths.ensures.starts) c.self.invariant.tree))

pub returns-clause-near : goal.returns-clause-near
returns-clause-near c =
    All-permutation (λ s. s.distance < 2 ^ 63) (settled_of c.self.inside.found.reached.items) c.in_ok-paths.paths.settled.items
    (rw c.deref.ensures.value at c.in_ok-paths.ensures.settled) c.self.invariant.near

pub returns-clause-settled : goal.returns-clause-settled
returns-clause-settled c =
    subst (λ l. IsPermutation l c.in_ok-paths.paths.settled.items) (ap (λ v. v.settled) c.self.view_is) (rw c.deref.ensures.value at c.in_ok-paths.ensures.settled)

pub returns-clause-starts : goal.returns-clause-starts
returns-clause-starts c =
    subst (λ l. IsPermutation l c.in_ok-paths.paths.starts.items) (ap (λ v. v.starts) c.self.view_is) (rw c.deref.ensures.value at c.in_ok-paths.ensures.starts)
