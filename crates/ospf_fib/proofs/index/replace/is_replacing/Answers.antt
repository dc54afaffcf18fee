use Rattle.std.proofs.Common.{◌≡◌, ◌<◌, ◌∙◌, ℕ, get_or, length, ltb-true, ap, subst, sym}
use Rattle.ospf_graph.specs.declared.route.Route.{Route}
use Rattle.ospf_spf.specs.Changes.{Reaches}
use Rattle.ospf_spf.specs.declared.changes.Change.{Change}
use Rattle.ospf_fib.specs.PrefixIndex.Replaced.{Replaces}
use Rattle.ospf_fib.proofs.PrefixIndex.ReplaceLemmas.{at_place, place_found}
use Rattle.ospf_fib.proofs.index.replace.is_replacing.Goals as goal

pub returns-in-Some : goal.returns-in-Some
returns-in-Some c =
    let routes = c.args.routes.now in
    let route = c.in-Put.route in
    let old = c.in-Some.old.now in
    let place = c.routes_before.result in
    let found = c.in-Some.ensures.lookup in
    let less : place < length routes = ltb-true place (length routes) (sym found.0) in (
      λ yes.
          let there : Reaches routes route.prefix = (old, (place, less, sym found.1), c.is_same_prefix.ensures.0 yes) in
          subst (λ (change : Change). Replaces routes change) (sym c.in-Put.is) there,
      λ replaces.
          let there : Reaches routes route.prefix = subst (λ (change : Change). Replaces routes change) c.in-Put.is replaces in
          let at = at_place routes route.prefix there in
          let same : place ≡ there.1.0 = place_found routes c.requires route there.1.0 there.1.1 at place c.routes_before.ensures in
          c.is_same_prefix.ensures.1 (ap (λ (r : Route). r.prefix) (found.1 ∙ ap (λ (n : ℕ). get_or routes n old) same) ∙ at old),
    )
