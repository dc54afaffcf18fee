use Rattle.std.proofs.Common.{rules, ◌≡◌, ◌∙◌, ap, sym}
use Rattle.std.proofs.lemmas.List.Sorted.{answers_always}
use Rattle.ospf_base.specs.Prefixes.{IsPrefixBefore}
use Rattle.ospf_graph.specs.declared.route.Route.{Route}
use Rattle.ospf_graph.proofs.SearchedLemmas.{found_at, gap_at, not_there}
use Rattle.ospf_spf.proofs.PrefixOrder.{prefix_cmp, prefixes_told}
use Rattle.ospf_change.proofs.diff.difference.route_to.Goals as goal

pub returns-in-Ok-clause-some : goal.returns-in-Ok-clause-some
returns-in-Ok-clause-some c =
    let by_prefix = c.in-Ok.ensures.position (λ route. route.prefix) (answers_always _ _ _ (λ f a r g called. search rules)) in
    let routes = c.args.routes.now in
    let at = found_at IsPrefixBefore prefix_cmp prefixes_told (λ (r : Route). r.prefix) routes c.args.prefix c.requires c.in-Ok.place by_prefix in
    let r : Route = c.index-routes-place.result in
    ((c.in-Ok.place, c.in-Ok.ensures.bound, sym c.index-routes-place.is), ap (λ (x : Route). x.prefix) c.index-routes-place.is ∙ at r)

pub returns-in-Err-clause-none : goal.returns-in-Err-clause-none
returns-in-Err-clause-none c =
    let by_prefix = c.in-Err.ensures.position (λ route. route.prefix) (answers_always _ _ _ (λ f a r g called. search rules)) in
    let routes = c.args.routes.now in
    let prefix = c.args.prefix in
    λ h. not_there IsPrefixBefore prefix_cmp prefixes_told (λ (r : Route). r.prefix) routes prefix c.requires c.in-Err.field-0
    (gap_at IsPrefixBefore prefix_cmp prefixes_told (λ (r : Route). r.prefix) routes prefix c.requires c.in-Err.field-0 by_prefix) h.0 h.1 h.2
