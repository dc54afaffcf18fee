use Rattle.std.proofs.Common.{◌≡◌, ◌++◌, ◌∷◌, List, [], sym, ap, subst, ◌∙◌, append_assoc, length, length-append, arith}
use Rattle.std.proofs.lemmas.List.{append-nil}
use Rattle.ospf_lsa.specs.declared.link.Link.{Link}
use Rattle.ospf_graph.specs.Adds.{Adds}
use Rattle.ospf_graph.specs.EdgeLists.Given.{LinkGives}
use Rattle.ospf_graph.proofs.EdgeLists.AddsLemmas.{GivenBy, adds_more, adds_start}
use Rattle.ospf_graph.proofs.edges.edges.add_links.Goals as goal

pub loop-link-init : goal.loop-link-init
loop-link-init c = record { walked = sym c.into_iter-link-iterator.ensures.into_iter_gives; adds = adds_start (LinkGives c.args.index.now c.args.router) c.args.edges.now.items; few = omega arith }

pub loop-link-preserved : goal.loop-link-preserved
loop-link-preserved c = record {
  walked =
      c.loop-link.invariant.walked ∙ ap (λ t. c.loop-link.yielded ++ t) c.in-Some.ensures.steps
      ∙ sym (append_assoc c.loop-link.yielded (c.in-Some.link ∷ []) c.next.new.self);
  adds = adds_more (LinkGives c.args.index.now c.args.router) c.loop-link.yielded c.in-Some.link c.args.edges.now.items _ _ c.loop-link.invariant.adds c.in_ok-add_link.ensures.added;
  few =
      let before = c.loop-link.invariant.few in
      let one = c.in_ok-add_link.ensures.few in
      omega (arith, length-append c.loop-link.yielded (c.in-Some.link ∷ []));
}

pub returns-clause-added : goal.returns-clause-added
returns-clause-added c =
    let all : c.args.links ≡ c.loop-link.yielded = c.loop-link.invariant.walked ∙ ap (λ t. c.loop-link.yielded ++ t) c.in-None.ensures.steps.0 ∙ append-nil c.loop-link.yielded in
    subst (λ (xs : List Link). Adds (GivenBy (LinkGives c.args.index.now c.args.router) xs) c.args.edges.now.items c.loop-link.edges.items) (sym all) c.loop-link.invariant.adds

pub returns-clause-few : goal.returns-clause-few
returns-clause-few c =
    let before = c.loop-link.invariant.few in
    omega (arith, ap length c.loop-link.invariant.walked, length-append c.loop-link.yielded c.loop-link.link-iterator)
