use Rattle.std.proofs.Common.{◌≡◌, ◌++◌, ◌∷◌, List, [], sym, ap, subst, ◌∙◌, append_assoc, length, length-append, arith}
use Rattle.std.proofs.lemmas.List.{append-nil}
use Rattle.ospf_base.specs.declared.ids.RouterId.{RouterId}
use Rattle.ospf_graph.specs.Adds.{Adds}
use Rattle.ospf_graph.specs.EdgeLists.Given.{AttachedGives}
use Rattle.ospf_graph.proofs.EdgeLists.AddsLemmas.{GivenBy, adds_more, adds_start}
use Rattle.ospf_graph.proofs.edges.edges.add_members.Goals as goal

pub loop-member-init : goal.loop-member-init
loop-member-init c = record { walked = sym c.into_iter-member-iterator.ensures.into_iter_gives; adds = adds_start (AttachedGives c.args.index.now c.args.id) c.args.edges.now.items; few = omega arith }

pub loop-member-preserved : goal.loop-member-preserved
loop-member-preserved c = record {
  walked =
      c.loop-member.invariant.walked ∙ ap (λ t. c.loop-member.yielded ++ t) c.in-Some.ensures.steps
      ∙ sym (append_assoc c.loop-member.yielded (c.in-Some.member ∷ []) c.next.new.self);
  adds = adds_more (AttachedGives c.args.index.now c.args.id) c.loop-member.yielded c.in-Some.member c.args.edges.now.items _ _ c.loop-member.invariant.adds c.in_ok-add_member.ensures.added;
  few =
      let before = c.loop-member.invariant.few in
      let one = c.in_ok-add_member.ensures.few in
      omega (arith, length-append c.loop-member.yielded (c.in-Some.member ∷ []));
}

pub returns-clause-added : goal.returns-clause-added
returns-clause-added c =
    let all : c.args.attached ≡ c.loop-member.yielded = c.loop-member.invariant.walked ∙ ap (λ t. c.loop-member.yielded ++ t) c.in-None.ensures.steps.0 ∙ append-nil c.loop-member.yielded in
    subst (λ (xs : List RouterId). Adds (GivenBy (AttachedGives c.args.index.now c.args.id) xs) c.args.edges.now.items c.loop-member.edges.items) (sym all) c.loop-member.invariant.adds

pub returns-clause-few : goal.returns-clause-few
returns-clause-few c =
    let before = c.loop-member.invariant.few in
    omega (arith, ap length c.loop-member.invariant.walked, length-append c.loop-member.yielded c.loop-member.member-iterator)
