use Rattle.std.proofs.Common.{ap, inl, subst, sym, ◌∙◌}
use Rattle.ospf_spf.specs.IncrementalSpf.Growth.{OffersIn}
use Rattle.std.specs.List.{Contains}
use Rattle.ospf_graph.specs.Adds.{Adds}
use Rattle.ospf_spf.specs.IncrementalSpf.Kept.{IsKeptTree, IsSameBut}
use Rattle.ospf_graph.specs.Reached.{settled_of, starts_of}
use Rattle.ospf_graph.specs.Search.{AtIn}
use Rattle.ospf_spf.proofs.IncrementalSpf.ChangedLemmas.{extends_then}
use Rattle.ospf_spf.proofs.IncrementalSpf.KeptGrowth.{fit_more, reached_named, same_anew, same_spared, tree_grown}
use Rattle.ospf_spf.proofs.incremental.kept.KeptPaths.grow.Goals as goal

pub invariant_of-result : goal.invariant_of-result
invariant_of-result c =
    let offered : OffersIn c.self.inside.found c.args.more.now c.new-waits.result c.offer_all.new.waits = (let is = c.in_ok-offer_all.ensures in search) in
    record {
      fit = fit_more c.args.more.now c.self.inside.edges.items c.insert_all.new.edges.items c.in_ok-insert_all.ensures.members c.self.invariant.fit c.requires.fit;
      root_fits = c.self.invariant.root_fits;
      in_order = c.in_ok-insert_all.ensures.in_order;
      near = c.in_ok-settle.ensures.near;
      places = c.in_ok-settle.ensures.places;
      tree = tree_grown c.args.more.now c.self.inside.edges.items c.insert_all.new.edges.items c.deref.result.now c.self.inside.root
          c.self.inside.found.reached.items c.settle.new.found.reached.items c.new-waits.result.list c.offer_all.new.waits.list (ap (λ w. w.list) c.new-waits.ensures)
          c.self.invariant.tree c.in_ok-insert_all.ensures.members offered c.deref.ensures.value (c.in_ok-settle.ensures.settles c.if-branch.true);
    }

pub returns-then-branch-clause-edges : goal.returns-then-branch-clause-edges
returns-then-branch-clause-edges c =
    subst (λ l. Adds (Contains c.args.more.now) l c.insert_all.new.edges.items) (ap (λ v. v.edges) c.self.view_is) c.in_ok-insert_all.ensures.members

pub returns-then-branch-clause-tree : goal.returns-then-branch-clause-tree
returns-then-branch-clause-tree c =
    let offered : OffersIn c.self.inside.found c.args.more.now c.new-waits.result c.offer_all.new.waits = (let is = c.in_ok-offer_all.ensures in search) in
    tree_grown c.args.more.now c.self.inside.edges.items c.insert_all.new.edges.items c.deref.result.now c.self.inside.root
    c.self.inside.found.reached.items c.settle.new.found.reached.items c.new-waits.result.list c.offer_all.new.waits.list (ap (λ w. w.list) c.new-waits.ensures)
    c.self.invariant.tree c.in_ok-insert_all.ensures.members offered c.deref.ensures.value (c.in_ok-settle.ensures.settles c.if-branch.true)

pub returns-then-branch-clause-same : goal.returns-then-branch-clause-same
returns-then-branch-clause-same c =
    let root = c.self.inside.root in
    let edges = c.insert_all.new.edges.items in
    let rs = c.settle.new.found.reached.items in
    subst (λ k. IsSameBut c.settle.new.changed.items k (record { root = root; edges = edges; settled = settled_of rs; starts = starts_of rs })) c.self.view_is
    (same_spared c.settle.new.changed.items root c.self.inside.edges.items edges c.self.inside.found.reached.items rs c.in_ok-settle.ensures.spares)

pub anew-requires-clause-fit : goal.anew-requires-clause-fit
anew-requires-clause-fit c = fit_more c.args.more.now c.self.inside.edges.items c.insert_all.new.edges.items c.in_ok-insert_all.ensures.members c.self.invariant.fit c.requires.fit

pub returns-clause-edges : goal.returns-clause-edges
returns-clause-edges c =
    subst (λ l. Adds (Contains c.args.more.now) c.args.self.edges l) (sym c.in_ok-paths.ensures.edges)
    (subst (λ l. Adds (Contains c.args.more.now) l c.insert_all.new.edges.items) (ap (λ v. v.edges) c.self.view_is) c.in_ok-insert_all.ensures.members)

pub returns-clause-same : goal.returns-clause-same
returns-clause-same c =
    let rs = c.paths.inside.found.reached.items in
    let edges = subst (λ l. Adds (Contains c.args.more.now) c.args.self.edges l) (sym c.in_ok-paths.ensures.edges)
    (subst (λ l. Adds (Contains c.args.more.now) l c.insert_all.new.edges.items) (ap (λ v. v.edges) c.self.view_is) c.in_ok-insert_all.ensures.members) in
    same_anew c.push_vertices.new.vertices.items c.args.self c.in_ok-paths.paths (subst (λ k. IsKeptTree k) c.self.view_is c.self.invariant.tree) c.in_ok-paths.ensures.tree
    (c.in_ok-paths.ensures.root ∙ ap (λ k. k.root) c.self.view_is) (λ e m. (edges e).1 (inl m))
    (λ v d other at.
    let at' = subst (λ l. AtIn l v d) (sym (ap (λ k. k.settled) c.paths.view_is)) at in
    other (rw (c.in_ok-push_vertices.ensures.all, c.deref-2.ensures.value) (reached_named rs c.settle.new.changed.items v d at')))

pub returns-clause-changed : goal.returns-clause-changed
returns-clause-changed c = extends_then _ _ _ c.in_ok-settle.ensures.changed c.in_ok-push_vertices.ensures.behind
