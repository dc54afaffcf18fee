use Rattle.std.proofs.Common.{◌≤◌, ◌<◌, List, length, refl, sym, subst, inl, inr, arith}
use Rattle.std.specs.List.{Contains}
use Rattle.std.proofs.lemmas.List.{take_all}
use Rattle.std.proofs.lemmas.List.Elements.{All-nil}
use Rattle.std.proofs.lemmas.List.Sorted.{All-permutation, Contains-permutation, IsNonDecreasingBy-from_sort}
use Rattle.ospf_graph.specs.declared.edges.end.End.{End}
use Rattle.ospf_graph.proofs.ListLemmas.{more_members}
use Rattle.ospf_whatif.proofs.root.places_of.Goals as goal

pub loop-vertex-init : goal.loop-vertex-init
loop-vertex-init c =
    let e = c.in_ok-add_places.ensures in
    record {
      within = e.within (rw c.new-places.ensures.items (All-nil _));
      all = λ k r lt is may. elim may [ inl gone ↦ e.ends k r gone.0 lt is gone.1 gone.2 | inr at ↦ absurd (let low = at.2.1 in omega arith) ];
    }

pub loop-vertex-preserved : goal.loop-vertex-preserved
loop-vertex-preserved c =
    let e = c.in_ok-add_places-2.ensures in
    let inv = c.loop-vertex.invariant in
    record {
      within = e.within inv.within;
      all = λ k r lt is may. elim may [
        | inl gone ↦ e.kept k (inv.all k r lt is (inl gone))
        | inr at ↦ elim ((more_members c.args.changed.now c.loop-vertex.vertex-index _ c.loop-vertex-test.true at.0).0 at.2) [
          | inl before ↦ e.kept k (inv.all k r lt is (inr (at.0, at.1, before, at.3)))
          | inr here ↦
              (let end : End = record { prefix = r.prefix; vertex = at.0; cost = at.1 } in
              e.ends k r end lt is (subst (λ (es : List End). Contains es end) (sym c.deref.ensures.value) ((c.in_ok-ends.ensures end).1 (at.3, sym here))) refl)
        ]
      ];
    }

pub returns-clause-within : goal.returns-clause-within
returns-clause-within c = All-permutation (λ k. k < length c.args.routes.now) _ _ c.sort_unstable.ensures.permutation c.loop-vertex.invariant.within

pub returns-clause-in_order : goal.returns-clause-in_order
returns-clause-in_order c = IsNonDecreasingBy-from_sort (λ x. x) _ c.sort_unstable.ensures.sorted

pub returns-clause-all : goal.returns-clause-all
returns-clause-all c = λ k r lt is may.
    let end : length c.args.changed.now ≤ c.loop-vertex.vertex-index = c.loop-vertex-test.false in
    let all = rw take_all at c.loop-vertex.invariant.all in
    Contains-permutation _ _ k c.sort_unstable.ensures.permutation (all k r lt is may)
