use Rattle.std.proofs.Common.{◌≡◌, ◌++◌, ap, false, true, subst, sym, ◌∙◌}
use Rattle.std.specs.List.{All, Contains}
use Rattle.std.specs.Prelude.{IfSome}
use Rattle.std.proofs.lemmas.List.Elements.{Contains-append_right}
use Rattle.ospf_graph.specs.declared.graph.Edge.{Edge}
use Rattle.ospf_graph.specs.Tree.{IsTree}
use Rattle.ospf_spf.specs.IncrementalSpf.Growth.{HasStart, IsAt}
use Rattle.ospf_spf.specs.IncrementalSpf.Kept.{IsKeptTree, IsSameBut}
use Rattle.ospf_spf.specs.IncrementalSpf.Left.{IsRegrown, LeadBack, edges_without, left_kept}
use Rattle.ospf_spf.specs.IncrementalSpf.Shrinking.{LeadsTo, TakesEdges}
use Rattle.ospf_spf.proofs.IncrementalSpf.KeptGrowth.{reached_named}
use Rattle.ospf_spf.proofs.IncrementalSpf.KeptShrink.{closed, fit_less}
use Rattle.ospf_spf.proofs.IncrementalSpf.LeftLemmas.{kept_anew, kept_beside, same_anew_left, same_beside, takes_without}
use Rattle.ospf_spf.proofs.incremental.kept.KeptPaths.without.Goals as goal

pub regrown-requires-clause-both_ways : goal.regrown-requires-clause-both_ways
regrown-requires-clause-both_ways c =
    subst (λ l. LeadBack l) (sym (c.deref-then-is_closed.ensures.value ∙ ap (λ v. v.edges) c.self.view_is)) c.requires.both_ways

pub returns-in-Some-clause-edges : goal.returns-in-Some-clause-edges
returns-in-Some-clause-edges c = takes_without c.args.less.now c.args.self.now.edges

pub returns-in-Some-clause-tree : goal.returns-in-Some-clause-tree
returns-in-Some-clause-tree c =
    let less = c.args.less.now in
    let root = c.self.inside.root in
    let edges = c.self.inside.edges.items in
    let found = c.self.inside.found in
    let gone = c.in_ok-gone.gone.items in
    let own = c.in-Some.own in
    let left = edges_without less edges in
    let takes = takes_without less edges in
    let g : c.deref-3.result.now ≡ gone = (let is = c.deref-3.ensures.value in search) in
    let same : c.deref-2.result.now ≡ edges = (let is = c.deref-2.ensures.value in search) in
    let free = subst (λ l. Contains l root → ⊥) g (c.is_closed.ensures.root c.if-is_closed.true) in
    let lead = subst (λ l. All (LeadsTo l found) less) g (c.is_closed.ensures.less c.if-is_closed.true) in
    let from = subst (λ l. (e : Edge) → Contains edges e → Contains l e.from → LeadsTo l found e) g
    (subst (λ l. (e : Edge) → Contains l e → Contains c.deref-3.result.now e.from → LeadsTo c.deref-3.result.now found e) same (c.is_closed.ensures.from c.if-is_closed.true)) in
    let told = subst (λ o. IfSome o (IsRegrown c.deref-then-is_closed.result.now less root c.deref-then-is_closed-2.result.now found)) c.in-Some.is c.in_ok-grown.ensures.regrown in
    let regrown : IsRegrown edges less root gone found own =
    subst (λ l. IsRegrown edges less root l found own) c.deref-then-is_closed-2.ensures.value
    (subst (λ l. IsRegrown l less root c.deref-then-is_closed-2.result.now found own) c.deref-then-is_closed.ensures.value told) in
    subst (λ k. IsKeptTree (left_kept k less false gone own.reached.items)) c.self.view_is
    (kept_beside root edges less found.reached.items own.reached.items gone
    (regrown left takes c.self.invariant.tree (closed less edges left root found gone takes free lead from)))

pub returns-in-Some-clause-same : goal.returns-in-Some-clause-same
returns-in-Some-clause-same c =
    let less = c.args.less.now in
    let gone = c.in_ok-gone.gone.items in
    let changed = c.extend_from_slice.new.self.items in
    let all : changed ≡ c.args.changed.now.items ++ gone = c.in_ok-extend_from_slice.ensures.items ∙ ap (λ l. c.args.changed.now.items ++ l) c.deref-in-Some.ensures.value in
    subst (λ k. IsSameBut changed k (left_kept k less false gone c.in-Some.own.reached.items)) c.self.view_is
    (same_beside c.self.inside.root c.self.inside.edges.items less c.self.inside.found.reached.items c.in-Some.own.reached.items gone changed
    (λ v m. subst (λ l. Contains l v) (sym all) (Contains-append_right c.args.changed.now.items gone v m)))

pub anew-requires-clause-fit : goal.anew-requires-clause-fit
anew-requires-clause-fit c =
    fit_less c.args.less.now c.self.inside.edges.items c.in_ok-edges.edges.items
    (subst (λ l. TakesEdges c.args.less.now l c.in_ok-edges.edges.items) c.deref-5.ensures.value c.in_ok-edges.ensures.members) c.self.invariant.fit

pub returns-clause-edges : goal.returns-clause-edges
returns-clause-edges c = takes_without c.args.less.now c.args.self.now.edges

pub returns-clause-tree : goal.returns-clause-tree
returns-clause-tree c =
    let less = c.args.less.now in
    let root = c.self.inside.root in
    let edges = c.self.inside.edges.items in
    let found = c.self.inside.found.reached.items in
    let left = c.in_ok-edges.edges.items in
    let own = c.paths.inside.found.reached.items in
    let takes = subst (λ l. TakesEdges less l left) c.deref-5.ensures.value c.in_ok-edges.ensures.members in
    let root_is : c.paths.inside.root ≡ root = ap (λ k. k.root) c.paths.view_is ∙ c.in_ok-paths.ensures.root in
    let edges_are : c.paths.inside.edges.items ≡ left = ap (λ k. k.edges) c.paths.view_is ∙ c.in_ok-paths.ensures.edges in
    let t = subst (λ l. IsTree (Contains l) root (IsAt own) (HasStart own)) edges_are
    (subst (λ r. IsTree (Contains c.paths.inside.edges.items) r (IsAt own) (HasStart own)) root_is c.paths.invariant.tree) in
    subst (λ k. IsKeptTree (left_kept k less true c.new.result.items own)) c.self.view_is (kept_anew root edges less found own c.new.result.items left takes t)

pub returns-clause-same : goal.returns-clause-same
returns-clause-same c =
    let less = c.args.less.now in
    let root = c.self.inside.root in
    let edges = c.self.inside.edges.items in
    let found = c.self.inside.found.reached.items in
    let own = c.paths.inside.found.reached.items in
    let changed = c.push_vertices.new.vertices.items in
    let gone = c.new.result.items in
    let t = subst (λ k. IsKeptTree (left_kept k less true gone own)) (sym c.self.view_is) (returns-clause-tree c) in
    subst (λ k. IsSameBut changed k (left_kept k less true gone own)) c.self.view_is
    (same_anew_left root edges less found own gone changed c.self.invariant.tree t
    (λ v d other at. other (rw (c.in_ok-push_vertices.ensures.all, c.deref-4.ensures.value) (reached_named found c.args.changed.now.items v d at))))
