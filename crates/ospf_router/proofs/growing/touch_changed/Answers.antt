use Rattle.std.proofs.Common.{◌≤◌, List, length, refl, subst, sym, inl, inr}
use Rattle.std.proofs.lemmas.List.{take_all}
use Rattle.ospf_graph.specs.declared.edges.end.End.{End}
use Rattle.ospf_graph.proofs.ListLemmas.{more_members}
use Rattle.ospf_router.specs.Growing.{HasEndOf}
use Rattle.ospf_router.proofs.growing.touch_changed.Goals as goal

pub loop-vertex-preserved : goal.loop-vertex-preserved
loop-vertex-preserved c =
    let i = c.loop-vertex.vertex-index in
    let changed = c.args.changed.now in
    let touch = c.in_ok-touch.ensures in
    record {
      kept = λ p m. touch.kept p (c.loop-vertex.invariant.kept p m);
      changed = λ p v k m is. elim ((more_members changed i _ c.loop-vertex-test.true v).0 m) [
        | inl before ↦ touch.kept p (c.loop-vertex.invariant.changed p v k before is)
        | inr here ↦
            let e : End = record { prefix = p; vertex = v; cost = k } in
            touch.ends p (subst (λ (es : List End). HasEndOf es p) (sym c.deref.ensures.value) (e, (c.in_ok-ends.ensures e).1 (is, sym here), refl))
      ];
    }

pub returns-clause-changed : goal.returns-clause-changed
returns-clause-changed c =
    let end : length c.args.changed.now ≤ c.loop-vertex.vertex-index = c.loop-vertex-test.false in
    rw take_all at c.loop-vertex.invariant.changed
