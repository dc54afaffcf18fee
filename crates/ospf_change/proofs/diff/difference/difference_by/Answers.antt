use Rattle.std.proofs.Common.{◌≡◌, ◌∙◌, ap, inl, inr, subst, sym}
use Rattle.ospf_graph.specs.declared.route.Route.{Route}
use Rattle.ospf_spf.specs.Changes.{Reaches}
use Rattle.ospf_spf.specs.declared.changes.Change.{Change}
use Rattle.ospf_change.specs.Diff.Difference.{IsDifferenceBy, IsOfTable, IsRouteTurn}
use Rattle.ospf_change.specs.declared.diff.difference.RouteDifference.TheVariants.{Gained, Lost}
use Rattle.ospf_change.proofs.diff.difference.difference_by.Goals as goal

pub unreachable-requires : goal.unreachable-requires
unreachable-requires c = c.in-None.ensures.none (subst (IsOfTable c.args.before.now) c.in-Gone.is c.requires.gone)

pub returns-in_ok-copy-in-Some : goal.returns-in_ok-copy-in-Some
returns-in_ok-copy-in-Some c =
    let old = c.in-Some.old.now in
    let d = Lost c.in_ok-copy-in-Some.field-0 in
    subst (λ (x : Change). IsDifferenceBy c.args.before.now x d) (sym c.in-Gone.is)
    (old, c.in-Some.ensures.some.0, c.in-Some.ensures.some.1, ap (λ (r : Route). Lost r) c.in_ok-copy-in-Some.ensures)

pub returns-in_ok-copy-in-Some-route_to : goal.returns-in_ok-copy-in-Some-route_to
returns-in_ok-copy-in-Some-route_to c =
    let old = c.in-Some-route_to.old.now in
    let route : c.in_ok-after-in-Put.after ≡ c.in-Put.route = c.in_ok-after-in-Put.ensures in
    let turn : IsRouteTurn old c.in-Put.route c.turned.result =
    subst (λ (r : Route). IsRouteTurn r c.in-Put.route c.turned.result) c.in_ok-copy-in-Some-route_to.ensures
    (subst (λ (r : Route). IsRouteTurn c.in_ok-copy-in-Some-route_to.field-0 r c.turned.result) route c.turned.ensures) in
    let some = c.in-Some-route_to.ensures.some in
    subst (λ (x : Change). IsDifferenceBy c.args.before.now x c.turned.result) (sym c.in-Put.is)
    (inr (old, some.0, some.1 ∙ ap (λ (r : Route). r.prefix) route, turn))

pub returns-in-None-route_to : goal.returns-in-None-route_to
returns-in-None-route_to c =
    let route : c.in_ok-after-in-Put.after ≡ c.in-Put.route = c.in_ok-after-in-Put.ensures in
    let none : Reaches c.args.before.now c.in-Put.route.prefix → ⊥ =
    subst (λ (r : Route). Reaches c.args.before.now r.prefix → ⊥) route c.in-None-route_to.ensures.none in
    subst (λ (x : Change). IsDifferenceBy c.args.before.now x (Gained c.in_ok-after-in-Put.after)) (sym c.in-Put.is)
    (inl (none, ap (λ (r : Route). Gained r) route))
