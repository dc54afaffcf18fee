use Rattle.std.proofs.Common.{◌≡◌, ◌++◌, ◌∷◌, List, [], sym, ap, subst, ◌∙◌, append_assoc}
use Rattle.std.proofs.lemmas.List.{append-nil}
use Rattle.ospf_lsa.specs.declared.link.Link.{Link}
use Rattle.ospf_graph.specs.Adds.{Adds}
use Rattle.ospf_graph.specs.EdgeLists.Given.{StubGives}
use Rattle.ospf_graph.proofs.EdgeLists.AddsLemmas.{GivenBy, adds_more, adds_start}
use Rattle.ospf_graph.proofs.edges.ends.add_stubs.Goals as goal

pub loop-link-init : goal.loop-link-init
loop-link-init c = record { walked = sym c.into_iter-link-iterator.ensures.into_iter_gives; adds = adds_start (StubGives c.args.router) c.args.ends.now.items }

pub loop-link-preserved : goal.loop-link-preserved
loop-link-preserved c = record {
  walked =
      c.loop-link.invariant.walked ∙ ap (λ t. c.loop-link.yielded ++ t) c.in-Some.ensures.steps
      ∙ sym (append_assoc c.loop-link.yielded (c.in-Some.link ∷ []) c.next.new.self);
  adds = adds_more (StubGives c.args.router) c.loop-link.yielded c.in-Some.link c.args.ends.now.items _ _ c.loop-link.invariant.adds c.in_ok-add_stub.ensures;
}

pub returns : goal.returns
returns c =
    let all : c.args.links ≡ c.loop-link.yielded = c.loop-link.invariant.walked ∙ ap (λ t. c.loop-link.yielded ++ t) c.in-None.ensures.steps.0 ∙ append-nil c.loop-link.yielded in
    subst (λ (xs : List Link). Adds (GivenBy (StubGives c.args.router) xs) c.args.ends.now.items c.loop-link.ends.items) (sym all) c.loop-link.invariant.adds
