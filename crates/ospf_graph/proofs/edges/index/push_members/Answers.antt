use Rattle.std.proofs.Common.{◌≡◌, ◌++◌, ◌∷◌, List, [], sym, ap, subst, ◌∙◌, append_assoc}
use Rattle.std.proofs.lemmas.List.{append-nil}
use Rattle.ospf_base.specs.declared.ids.RouterId.{RouterId}
use Rattle.ospf_graph.specs.EdgeLists.Index.{NamedOn}
use Rattle.ospf_graph.specs.Adds.{Adds}
use Rattle.ospf_graph.proofs.EdgeLists.AddsLemmas.{GivenBy, adds_more, adds_start}
use Rattle.ospf_graph.proofs.edges.index.push_members.Goals as goal

pub loop-member-init : goal.loop-member-init
loop-member-init c = record { walked = sym c.into_iter-member-iterator.ensures.into_iter_gives; adds = adds_start (NamedOn c.args.id) c.args.pairs.now.items }

pub loop-member-preserved : goal.loop-member-preserved
loop-member-preserved c = record {
  walked =
      c.loop-member.invariant.walked ∙ ap (λ t. c.loop-member.yielded ++ t) c.in-Some.ensures.steps
      ∙ sym (append_assoc c.loop-member.yielded (c.in-Some.member ∷ []) c.next.new.self);
  adds = adds_more (NamedOn c.args.id) c.loop-member.yielded c.in-Some.member c.args.pairs.now.items _ _ c.loop-member.invariant.adds c.in_ok-push_member.ensures;
}

pub returns : goal.returns
returns c =
    let all : c.args.attached ≡ c.loop-member.yielded = c.loop-member.invariant.walked ∙ ap (λ t. c.loop-member.yielded ++ t) c.in-None.ensures.steps.0 ∙ append-nil c.loop-member.yielded in
    subst (λ (xs : List RouterId). Adds (GivenBy (NamedOn c.args.id) xs) c.args.pairs.now.items c.loop-member.pairs.items) (sym all) c.loop-member.invariant.adds
