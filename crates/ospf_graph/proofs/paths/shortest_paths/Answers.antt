use Rattle.std.proofs.Common.{◌<◌, ◌^◌, ◌≤◌, ◌+◌, ◌*◌, length, arith}
use Rattle.std.specs.List.{Contains}
use Rattle.std.proofs.lemmas.List.Sorted.{All-permutation, length_permutation}
use Rattle.ospf_graph.specs.Reached.{settled_of, starts_of}
use Rattle.ospf_graph.specs.Search.{AtIn, StartsIn}
use Rattle.ospf_graph.proofs.SearchState.{fit_sorted, put_in_order}
use Rattle.ospf_graph.proofs.TreeLemmas.{are_least}
use Rattle.ospf_graph.proofs.paths.shortest_paths.Goals as goal

pub search-requires-clause-fit : goal.search-requires-clause-fit
search-requires-clause-fit c = rw c.deref.ensures.value (fit_sorted c.args.edges.now c.in_ok-sorted.sorted.items c.in_ok-sorted.ensures.same c.requires.fit)

pub returns-clause-tree : goal.returns-clause-tree
returns-clause-tree c =
    put_in_order c.args.edges.now c.in_ok-sorted.sorted.items c.in_ok-sorted.ensures.same c.args.root
    (settled_of c.in_ok-found.found.reached.items) c.in_ok-paths.paths.settled.items (starts_of c.in_ok-found.found.reached.items) c.in_ok-paths.paths.starts.items
    (rw c.deref-2.ensures.value at c.in_ok-paths.ensures.settled) (rw c.deref-2.ensures.value at c.in_ok-paths.ensures.starts)
    (rw c.deref.ensures.value at c.in_ok-found.ensures.tree)

pub returns-clause-least : goal.returns-clause-least
returns-clause-least c =
    are_least (Contains c.args.edges.now) c.args.root (AtIn c.in_ok-paths.paths.settled.items) (StartsIn c.in_ok-paths.paths.starts.items)
    (put_in_order c.args.edges.now c.in_ok-sorted.sorted.items c.in_ok-sorted.ensures.same c.args.root
    (settled_of c.in_ok-found.found.reached.items) c.in_ok-paths.paths.settled.items (starts_of c.in_ok-found.found.reached.items) c.in_ok-paths.paths.starts.items
    (rw c.deref-2.ensures.value at c.in_ok-paths.ensures.settled) (rw c.deref-2.ensures.value at c.in_ok-paths.ensures.starts)
    (rw c.deref.ensures.value at c.in_ok-found.ensures.tree))

pub returns-clause-near : goal.returns-clause-near
returns-clause-near c =
    All-permutation (λ s. s.distance < 2 ^ 63) (settled_of c.in_ok-found.found.reached.items) c.in_ok-paths.paths.settled.items
    (rw c.deref-2.ensures.value at c.in_ok-paths.ensures.settled) c.in_ok-found.ensures.near

pub returns-clause-looks : goal.returns-clause-looks
returns-clause-looks c =
    let few : c.in_ok-found.found.looks ≤ 2 * length c.in_ok-sorted.sorted.items + 1 = rw c.deref.ensures.value at c.in_ok-found.ensures.looks in
    let same = c.in_ok-paths.ensures.looks in
    omega (arith, length_permutation _ _ c.in_ok-sorted.ensures.same)
