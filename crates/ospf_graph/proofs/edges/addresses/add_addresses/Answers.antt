use Rattle.std.proofs.Common.{◌≡◌, ◌++◌, ◌∷◌, List, [], nat_eq, sym, ap, subst, ◌∙◌, append_assoc, append-nil}
use Rattle.std.specs.HashMap.{get}
use Rattle.ospf_lsa.specs.declared.link.Link.{Link}
use Rattle.ospf_graph.specs.EdgeLists.Addresses.{AddsAddresses}
use Rattle.ospf_graph.proofs.EdgeLists.AddressLemmas.{adds_link, adds_nothing}
use Rattle.ospf_graph.proofs.edges.addresses.add_addresses.Goals as goal

pub loop-link-init : goal.loop-link-init
loop-link-init c = record { walked = sym c.into_iter-link-iterator.ensures.into_iter_gives; adds = adds_nothing c.args.router (get nat_eq c.args.addresses.now) }

pub loop-link-preserved : goal.loop-link-preserved
loop-link-preserved c = record {
  walked =
      c.loop-link.invariant.walked ∙ ap (λ t. c.loop-link.yielded ++ t) c.in-Some.ensures.steps
      ∙ sym (append_assoc c.loop-link.yielded (c.in-Some.link ∷ []) c.next.new.self);
  adds = adds_link c.args.router c.loop-link.yielded c.in-Some.link (get nat_eq c.args.addresses.now) (get nat_eq c.loop-link.addresses) (get nat_eq c.add_address.new.addresses)
      c.loop-link.invariant.adds c.in_ok-add_address.ensures;
}

pub returns : goal.returns
returns c =
    let all : c.args.links ≡ c.loop-link.yielded = c.loop-link.invariant.walked ∙ ap (λ t. c.loop-link.yielded ++ t) c.in-None.ensures.steps.0 ∙ append-nil c.loop-link.yielded in
    subst (λ (xs : List Link). AddsAddresses c.args.router xs (get nat_eq c.args.addresses.now) (get nat_eq c.loop-link.addresses)) (sym all) c.loop-link.invariant.adds
