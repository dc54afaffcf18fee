use Rattle.std.proofs.Common.{◌≡◌, ◌++◌, ◌∷◌, [], List, ap, map, subst, sym, ◌∙◌, append_assoc}
use Rattle.std.proofs.lemmas.List.{append-nil}
use Rattle.serde_json.proofs.Views.{view-Array}
use Rattle.serde_json.specs.View.{view}
use Rattle.ospf_lsa.specs.declared.link.Link.{Link}
use Rattle.ospf_inspect.specs.Values.{TellsLink}
use Rattle.ospf_inspect.specs.Json.{AreValues}
use Rattle.ospf_inspect.proofs.ValueLemmas.{none_yet, pushed}
use Rattle.ospf_inspect.proofs.values.links_value.Goals as goal

pub loop-link-init : goal.loop-link-init
loop-link-init c = record {
  walked = sym c.into_iter-link-iterator.ensures.into_iter_gives;
  told = λ adverts at. none_yet (TellsLink adverts c.args.router) c.new-items.result.items c.new-items.ensures.items;
}

pub loop-link-preserved : goal.loop-link-preserved
loop-link-preserved c = record {
  walked =
      c.loop-link.invariant.walked ∙ ap (λ t. c.loop-link.yielded ++ t) c.in-Some.ensures.steps
      ∙ sym (append_assoc c.loop-link.yielded (c.in-Some.link ∷ []) c.next.new.self);
  told = λ adverts at.
      pushed (TellsLink adverts c.args.router) c.loop-link.yielded c.in-Some.link c.loop-link.items.items c.push.new.self.items c.in_ok-link_value.field-0 c.in_ok-push.ensures.items
      (c.loop-link.invariant.told adverts at) (c.in_ok-link_value.ensures adverts at);
}

pub returns : goal.returns
returns c = λ adverts at.
    let all : c.args.links ≡ c.loop-link.yielded = c.loop-link.invariant.walked ∙ ap (λ t. c.loop-link.yielded ++ t) c.in-None.ensures.steps.0 ∙ append-nil c.loop-link.yielded in (
      map view c.loop-link.items.items,
      subst (λ (xs : List Link). AreValues (TellsLink adverts c.args.router) xs (map view c.loop-link.items.items)) (sym all) (c.loop-link.invariant.told adverts at),
      view-Array c.loop-link.items,
    )
