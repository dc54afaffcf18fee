use Rattle.std.proofs.Common.{subst, ◌≡◌, ◌<◌, ◌≤◌, ◌⊎◌, ℕ, List, length, get_or, refl, sym, ap, ◌∙◌, inl, inr, arith}
use Rattle.std.proofs.lemmas.Bool.Decides.{nat_tests}
use Rattle.std.proofs.lemmas.List.{get_or_default}
use Rattle.ospf_base.specs.Prefixes.{Holds}
use Rattle.ospf_graph.specs.declared.route.Route.{Route}
use Rattle.ospf_graph.specs.Walk.{IsBest}
use Rattle.ospf_spf.proofs.SameRoute.{route_same}
use Rattle.ospf_spf.specs.Table.{IsBestPlace}
use Rattle.ospf_fib.specs.PrefixIndex.Entries.{IsEntryFor}
use Rattle.ospf_fib.specs.PrefixIndex.Sets.{hops_of}
use Rattle.ospf_fib.specs.declared.index.entries.Entry.{Entry}
use Rattle.ospf_fib.specs.declared.index.sets.HopSets.{HopSets}
use Rattle.ospf_fib.proofs.index.table.IndexedTable.lookup.Goals as goal

less_or_more : (i j : ℕ) → (i < j) ⊎ (j ≤ i)
less_or_more i j = grind arith

-- the route at the best place is the best
best_at : (routes : List Route) (address place : ℕ) (r : Route) → IsBestPlace routes address place → get_or routes place r ≡ r → IsBest routes address r
best_at routes address place r best is =
    record {
      listed = (place, best.within, is);
      holds = subst (λ (x : Route). Holds x.prefix address) is (best.holds r);
      longest = λ other in_table held.
          let at : get_or routes in_table.0 other ≡ other = in_table.2 in
          let le = best.longest in_table.0 other in_table.1 (subst (λ (x : Route). Holds x.prefix address) (sym at) held) in
          let here : get_or routes place other ≡ r = get_or_default routes place other r best.within ∙ is in
          omega (arith, le, ap (λ x. x.prefix.length) at, ap (λ x. x.prefix.length) here);
    }

-- an entry with a hop is that of the best route
best_of : (routes : List Route) (sets : HopSets) (address : ℕ) (entry : Entry) (r : Route) → IsEntryFor routes sets address entry
    → entry.prefix ≡ r.prefix → entry.cost ≡ r.cost → hops_of sets entry.set ≡ r.hops → 0 < length r.hops → IsBest routes address r
best_of routes sets address entry r m prefix cost hops some =
    elim (less_or_more m.place (length routes)) [
      | inl less ↦ best_at routes address m.place r (m.answers.0 less)
          (route_same (get_or routes m.place r) r (sym (m.prefix_is less r) ∙ prefix) (sym (m.cost_is less r) ∙ cost) (sym (m.hops_are less r) ∙ hops))
      | inr more ↦ absurd (omega (arith, ap length (sym (m.none more) ∙ hops), some))
    ]

pub returns-clause-found : goal.returns-clause-found
returns-clause-found c =
    let routes = c.routes.result.now in
    let entry = c.entry-entry.result in
    let hops = c.get-hops.result.now in
    let route : Route = record { prefix = entry.prefix; cost = entry.cost; hops = hops } in
    let some : 0 < length hops = grind (arith, nat_tests, c.if-is_empty.false, c.is_empty.ensures) in
    let found = best_of routes c.self.inside.index.sets c.args.address.0 entry route c.entry-entry.ensures refl refl (sym c.get-hops.ensures) some in
    let same : routes ≡ c.args.self.now = cc in
    subst (λ (rs : List Route). IsBest rs c.args.address.0 route) same found
