use Rattle.std.proofs.Common.{◌≡◌, ◌++◌, ◌∷◌, [], List, ap, map, subst, sym, ◌∙◌, append_assoc}
use Rattle.std.proofs.lemmas.List.{append-nil}
use Rattle.serde_json.proofs.Views.{view-Array}
use Rattle.serde_json.specs.View.{view}
use Rattle.ospf_base.specs.declared.ids.RouterId.{RouterId}
use Rattle.ospf_inspect.specs.Values.{TellsAttached}
use Rattle.ospf_inspect.specs.Json.{AreValues}
use Rattle.ospf_inspect.proofs.ValueLemmas.{none_yet, pushed}
use Rattle.ospf_inspect.proofs.values.attached_value.Goals as goal

pub loop-router-init : goal.loop-router-init
loop-router-init c = record {
  walked = sym c.into_iter-router-iterator.ensures.into_iter_gives;
  told = λ adverts at. none_yet (TellsAttached adverts c.args.network) c.new-items.result.items c.new-items.ensures.items;
}

pub loop-router-preserved : goal.loop-router-preserved
loop-router-preserved c = record {
  walked =
      c.loop-router.invariant.walked ∙ ap (λ t. c.loop-router.yielded ++ t) c.in-Some.ensures.steps
      ∙ sym (append_assoc c.loop-router.yielded (c.in-Some.router ∷ []) c.next.new.self);
  told = λ adverts at.
      pushed (TellsAttached adverts c.args.network) c.loop-router.yielded c.in-Some.router c.loop-router.items.items c.push.new.self.items c.in_ok-attached_router.field-0 c.in_ok-push.ensures.items
      (c.loop-router.invariant.told adverts at) (c.in_ok-attached_router.ensures adverts at);
}

pub returns : goal.returns
returns c = λ adverts at.
    let all : c.args.attached ≡ c.loop-router.yielded = c.loop-router.invariant.walked ∙ ap (λ t. c.loop-router.yielded ++ t) c.in-None.ensures.steps.0 ∙ append-nil c.loop-router.yielded in (
      map view c.loop-router.items.items,
      subst (λ (xs : List RouterId). AreValues (TellsAttached adverts c.args.network) xs (map view c.loop-router.items.items)) (sym all) (c.loop-router.invariant.told adverts at),
      view-Array c.loop-router.items,
    )
