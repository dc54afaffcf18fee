use Rattle.std.proofs.Common.{◌≡◌, ap, subst, sym, ◌∙◌}
use Rattle.std.specs.List.{All, Contains}
use Rattle.std.proofs.lemmas.List.Elements.{Contains-append_left}
use Rattle.ospf_graph.specs.declared.graph.Edge.{Edge}
use Rattle.ospf_spf.specs.IncrementalSpf.Kept.{IsKeptTree, IsSameBut}
use Rattle.ospf_graph.specs.Reached.{settled_of, starts_of}
use Rattle.ospf_graph.specs.Search.{AreEdgesInOrder, AtIn}
use Rattle.ospf_spf.specs.IncrementalSpf.Shrinking.{LeadsTo, LeavesIn, OpensIn, TakesEdges}
use Rattle.ospf_spf.proofs.IncrementalSpf.ChangedLemmas.{extends_holds, extends_then}
use Rattle.ospf_spf.proofs.IncrementalSpf.KeptGrowth.{reached_named, same_less}
use Rattle.ospf_spf.proofs.IncrementalSpf.KeptShrink.{fit_less, near_left, none_missed, same_shrunk, tree_shrunk}
use Rattle.ospf_spf.proofs.incremental.kept.KeptPaths.shrink.Goals as goal

pub left_of-requires : goal.left_of-requires
left_of-requires c = subst (λ l. AreEdgesInOrder l) (sym c.deref-2.ensures.value) c.self.invariant.in_order

pub anew-requires-clause-fit : goal.anew-requires-clause-fit
anew-requires-clause-fit c =
    fit_less c.args.less.now c.self.inside.edges.items c.in_ok-edges.edges.items (subst (λ l. TakesEdges c.args.less.now l c.in_ok-edges.edges.items) c.deref-2.ensures.value c.in_ok-edges.ensures.members) c.self.invariant.fit

pub returns-then-not-is_closed-clause-edges : goal.returns-then-not-is_closed-clause-edges
returns-then-not-is_closed-clause-edges c =
    subst (λ l. TakesEdges c.args.less.now c.args.self.edges l) (sym c.in_ok-paths.ensures.edges)
    (subst (λ l. TakesEdges c.args.less.now l c.in_ok-edges.edges.items) (c.deref-2.ensures.value ∙ ap (λ v. v.edges) c.self.view_is) c.in_ok-edges.ensures.members)

pub returns-then-not-is_closed-clause-same : goal.returns-then-not-is_closed-clause-same
returns-then-not-is_closed-clause-same c =
    let edges = subst (λ l. TakesEdges c.args.less.now c.args.self.edges l) (sym c.in_ok-paths.ensures.edges)
    (subst (λ l. TakesEdges c.args.less.now l c.in_ok-edges.edges.items) (c.deref-2.ensures.value ∙ ap (λ v. v.edges) c.self.view_is) c.in_ok-edges.ensures.members) in
    same_less c.push_vertices.new.vertices.items c.args.self c.in_ok-paths.paths (subst (λ k. IsKeptTree k) c.self.view_is c.self.invariant.tree) c.in_ok-paths.ensures.tree
    (c.in_ok-paths.ensures.root ∙ ap (λ k. k.root) c.self.view_is) (λ e m. ((edges e).0 m).0)
    (λ v d other at.
    let at' = subst (λ l. AtIn l v d) (sym (ap (λ k. k.settled) c.self.view_is)) at in
    other (rw (c.in_ok-push_vertices.ensures.all, c.deref-then-not-is_closed.ensures.value) (reached_named c.self.inside.found.reached.items c.args.changed.now.items v d at')))

pub offer_to-requires-clause-near : goal.offer_to-requires-clause-near
offer_to-requires-clause-near c =
    let takes = subst (λ l. TakesEdges c.args.less.now l c.in_ok-edges.edges.items) c.deref-2.ensures.value c.in_ok-edges.ensures.members in
    near_left c.args.less.now c.self.inside.edges.items c.in_ok-edges.edges.items c.self.inside.root c.self.inside.found c.deref-5.result.now c.leave.new.found.reached.items
    c.self.invariant.tree takes c.in_ok-leave.ensures.left c.self.invariant.near

pub settle-requires-clause-near : goal.settle-requires-clause-near
settle-requires-clause-near c =
    let takes = subst (λ l. TakesEdges c.args.less.now l c.in_ok-edges.edges.items) c.deref-2.ensures.value c.in_ok-edges.ensures.members in
    near_left c.args.less.now c.self.inside.edges.items c.in_ok-edges.edges.items c.self.inside.root c.self.inside.found c.deref-5.result.now c.leave.new.found.reached.items
    c.self.invariant.tree takes c.in_ok-leave.ensures.left c.self.invariant.near

pub invariant_of-result : goal.invariant_of-result
invariant_of-result c =
    let f = c.self.inside.found in
    let less = c.args.less.now in
    let whole = c.self.inside.edges.items in
    let gone = c.in_ok-gone.gone.items in
    let g : c.deref-4.result.now ≡ gone = (let is = c.deref-4.ensures.value in search) in
    let same : c.deref-3.result.now ≡ whole = (let is = c.deref-3.ensures.value in search) in
    let takes = subst (λ l. TakesEdges less l c.in_ok-edges.edges.items) c.deref-2.ensures.value c.in_ok-edges.ensures.members in
    let free = subst (λ l. Contains l c.self.inside.root → ⊥) g (c.is_closed.ensures.root c.if-not-is_closed.false) in
    let lead = subst (λ l. All (LeadsTo l f) less) g (c.is_closed.ensures.less c.if-not-is_closed.false) in
    let from = subst (λ l. (e : Edge) → Contains whole e → Contains l e.from → LeadsTo l f e) g
    (subst (λ l. (e : Edge) → Contains l e → Contains c.deref-4.result.now e.from → LeadsTo c.deref-4.result.now f e) same (c.is_closed.ensures.from c.if-not-is_closed.false)) in
    let left = subst (λ l. LeavesIn l f c.leave.new.found) c.deref-5.ensures.value c.in_ok-leave.ensures.left in
    let opens = subst (λ l. OpensIn l c.deref-7.result.now c.leave.new.found c.new-waits.result c.offer_to.new.waits) c.deref-6.ensures.value c.in_ok-offer_to.ensures in
    record {
      fit = fit_less less whole c.in_ok-edges.edges.items takes c.self.invariant.fit;
      root_fits = c.self.invariant.root_fits;
      in_order = c.in_ok-edges.ensures.in_order;
      near = c.in_ok-settle.ensures.near;
      places = c.in_ok-settle.ensures.places;
      tree = tree_shrunk less whole c.in_ok-edges.edges.items c.self.inside.root f gone c.leave.new.found.reached.items
          c.self.invariant.tree takes left free lead from c.deref-7.result.now c.deref-8.result.now c.settle.new.found.reached.items
          c.new-waits.result.list c.offer_to.new.waits.list (ap (λ w. w.list) c.new-waits.ensures) c.deref-7.ensures.value opens c.deref-8.ensures.value
          (c.in_ok-settle.ensures.settles c.if-branch.true);
    }

pub returns-then-branch-clause-edges : goal.returns-then-branch-clause-edges
returns-then-branch-clause-edges c =
    subst (λ l. TakesEdges c.args.less.now l c.in_ok-edges.edges.items) (c.deref-2.ensures.value ∙ ap (λ v. v.edges) c.self.view_is) c.in_ok-edges.ensures.members

pub returns-then-branch-clause-tree : goal.returns-then-branch-clause-tree
returns-then-branch-clause-tree c =
    let f = c.self.inside.found in
    let less = c.args.less.now in
    let whole = c.self.inside.edges.items in
    let gone = c.in_ok-gone.gone.items in
    let g : c.deref-4.result.now ≡ gone = (let is = c.deref-4.ensures.value in search) in
    let same : c.deref-3.result.now ≡ whole = (let is = c.deref-3.ensures.value in search) in
    let takes = subst (λ l. TakesEdges less l c.in_ok-edges.edges.items) c.deref-2.ensures.value c.in_ok-edges.ensures.members in
    let free = subst (λ l. Contains l c.self.inside.root → ⊥) g (c.is_closed.ensures.root c.if-not-is_closed.false) in
    let lead = subst (λ l. All (LeadsTo l f) less) g (c.is_closed.ensures.less c.if-not-is_closed.false) in
    let from = subst (λ l. (e : Edge) → Contains whole e → Contains l e.from → LeadsTo l f e) g
    (subst (λ l. (e : Edge) → Contains l e → Contains c.deref-4.result.now e.from → LeadsTo c.deref-4.result.now f e) same (c.is_closed.ensures.from c.if-not-is_closed.false)) in
    let left = subst (λ l. LeavesIn l f c.leave.new.found) c.deref-5.ensures.value c.in_ok-leave.ensures.left in
    let opens = subst (λ l. OpensIn l c.deref-7.result.now c.leave.new.found c.new-waits.result c.offer_to.new.waits) c.deref-6.ensures.value c.in_ok-offer_to.ensures in
    tree_shrunk less whole c.in_ok-edges.edges.items c.self.inside.root f gone c.leave.new.found.reached.items
    c.self.invariant.tree takes left free lead from c.deref-7.result.now c.deref-8.result.now c.settle.new.found.reached.items
    c.new-waits.result.list c.offer_to.new.waits.list (ap (λ w. w.list) c.new-waits.ensures) c.deref-7.ensures.value opens c.deref-8.ensures.value
    (c.in_ok-settle.ensures.settles c.if-branch.true)

pub returns-then-branch-clause-same : goal.returns-then-branch-clause-same
returns-then-branch-clause-same c =
    let takes = subst (λ l. TakesEdges c.args.less.now l c.in_ok-edges.edges.items) c.deref-2.ensures.value c.in_ok-edges.ensures.members in
    let rs = c.settle.new.found.reached.items in
    subst (λ k. IsSameBut c.settle.new.changed.items k (record { root = c.self.inside.root; edges = c.in_ok-edges.edges.items; settled = settled_of rs; starts = starts_of rs })) c.self.view_is
    (same_shrunk c.args.less.now c.self.inside.edges.items c.in_ok-edges.edges.items c.self.inside.root c.self.inside.found c.deref-5.result.now c.leave.new.found.reached.items
    c.self.invariant.tree takes c.in_ok-leave.ensures.left rs c.settle.new.changed.items c.in_ok-settle.ensures.spares
    (λ v d m at. extends_holds _ _ c.in_ok-settle.ensures.changed v (c.in_ok-leave.ensures.gone v m)))

pub anew-requires-2-clause-fit : goal.anew-requires-2-clause-fit
anew-requires-2-clause-fit c =
    fit_less c.args.less.now c.self.inside.edges.items c.in_ok-edges.edges.items (subst (λ l. TakesEdges c.args.less.now l c.in_ok-edges.edges.items) c.deref-2.ensures.value c.in_ok-edges.ensures.members) c.self.invariant.fit

pub returns-clause-edges : goal.returns-clause-edges
returns-clause-edges c =
    subst (λ l. TakesEdges c.args.less.now c.args.self.edges l) (sym c.in_ok-paths-2.ensures.edges)
    (subst (λ l. TakesEdges c.args.less.now l c.in_ok-edges.edges.items) (c.deref-2.ensures.value ∙ ap (λ v. v.edges) c.self.view_is) c.in_ok-edges.ensures.members)

pub returns-clause-same : goal.returns-clause-same
returns-clause-same c =
    let takes = subst (λ l. TakesEdges c.args.less.now l c.in_ok-edges.edges.items) c.deref-2.ensures.value c.in_ok-edges.ensures.members in
    let edges = subst (λ l. TakesEdges c.args.less.now c.args.self.edges l) (sym c.in_ok-paths-2.ensures.edges)
    (subst (λ l. TakesEdges c.args.less.now l c.in_ok-edges.edges.items) (c.deref-2.ensures.value ∙ ap (λ v. v.edges) c.self.view_is) c.in_ok-edges.ensures.members) in
    same_less c.push_vertices-2.new.vertices.items c.args.self c.in_ok-paths-2.paths (subst (λ k. IsKeptTree k) c.self.view_is c.self.invariant.tree) c.in_ok-paths-2.ensures.tree
    (c.in_ok-paths-2.ensures.root ∙ ap (λ k. k.root) c.self.view_is) (λ e m. ((edges e).0 m).0)
    (λ v d other at.
    let at' = subst (λ l. AtIn l v d) (sym (ap (λ k. k.settled) c.self.view_is)) at in
    none_missed c.args.less.now c.self.inside.edges.items c.in_ok-edges.edges.items c.self.inside.root c.self.inside.found c.deref-5.result.now c.leave.new.found.reached.items
    c.self.invariant.tree takes c.in_ok-leave.ensures.left c.settle.new.found.reached.items c.settle.new.changed.items c.in_ok-settle.ensures.spares
    (λ v d m at. extends_holds _ _ c.in_ok-settle.ensures.changed v (c.in_ok-leave.ensures.gone v m)) v d
    (λ m. other (rw (c.in_ok-push_vertices-2.ensures.all, c.deref-9.ensures.value) m))
    (λ m. other (rw c.in_ok-push_vertices-2.ensures.all (Contains-append_left c.settle.new.changed.items _ v m))) at')

pub returns-clause-changed : goal.returns-clause-changed
returns-clause-changed c =
    extends_then _ _ _ (extends_then _ _ _ c.in_ok-leave.ensures.changed c.in_ok-settle.ensures.changed) c.in_ok-push_vertices-2.ensures.behind
