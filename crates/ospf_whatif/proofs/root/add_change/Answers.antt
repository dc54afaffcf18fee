use Rattle.std.proofs.Common.{◌++◌, ◌∷◌, ◌∙◌, [], Option, ap, inl, inr, refl, subst}
use Rattle.ospf_graph.specs.declared.route.Route.{Route}
use Rattle.ospf_whatif.specs.Outage.{StaysOr, left_of_area}
use Rattle.ospf_whatif.specs.declared.effect.Loss.{Loss}
use Rattle.ospf_whatif.proofs.root.add_change.Goals as goal

pub returns-in_ok-push-in-Some : goal.returns-in_ok-push-in-Some
returns-in_ok-push-in-Some g c = λ adverts root over was.
    let left = left_of_area adverts c.args.outage.now in
    inr (
      c.in-Some.loss,
      subst (λ (o : Option Loss). StaysOr left root c.args.route.now o) c.in-Some.is (c.in_ok-loss.ensures adverts root over was),
      c.in_ok-push-in-Some.ensures.items
          ∙ ap (λ (r : Route). c.args.changes.now.items ++ record { before = r; loss = c.in-Some.loss } ∷ []) c.in_ok-before-in-Some.ensures,
    )

pub returns-in-None : goal.returns-in-None
returns-in-None g c = λ adverts root over was.
    let left = left_of_area adverts c.args.outage.now in
    inl (subst (λ (o : Option Loss). StaysOr left root c.args.route.now o) c.in-None.is (c.in_ok-loss.ensures adverts root over was), refl)
