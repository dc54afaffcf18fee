-- From lists of edges, ends and reaches to the table.
use Rattle.std.proofs.Common.{◌≡◌, ◌+◌, ◌<◌, ◌≤◌, ◌⊎◌, ◌↔◌, ℕ, List, get_or, refl, sym, ap, subst, ◌∙◌, inl, inr, arith}
use Rattle.std.specs.List.{All, AllPairs, Contains}
use Rattle.ospf_base.specs.Prefixes.{IsPrefixBefore}
use Rattle.ospf_base.specs.declared.prefix.Prefix.{Prefix}
use Rattle.ospf_base.specs.declared.ids.RouterId.{RouterId}
use Rattle.ospf_graph.specs.Advertisements.{Advertisement, IsListed}
use Rattle.ospf_graph.specs.Graph.{IsEdge}
use Rattle.ospf_graph.specs.Routes.{IsEnd, IsRoute, IsTable, Way}
use Rattle.ospf_graph.specs.Search.{AtIn, StartsIn}
use Rattle.ospf_graph.specs.Tree.{IsTree}
use Rattle.ospf_graph.specs.declared.graph.Vertex.{Vertex}
use Rattle.ospf_graph.specs.declared.graph.Vertex.TheVariants.{Router, Network}
use Rattle.ospf_graph.specs.declared.paths.Settled.{Settled}
use Rattle.ospf_graph.specs.declared.paths.VertexStart.{VertexStart}
use Rattle.ospf_graph.specs.declared.route.Route.{Route}
use Rattle.ospf_spf.proofs.RouteLemmas.{IsReach, reach_of_way, route_exact, table_exact, IsReachedRoute}
use Rattle.ospf_spf.specs.Reach.{AreEndsWithin, IsReachOf, IsRouteOf, IsLargerNetwork}
use Rattle.ospf_graph.specs.declared.edges.end.End.{End}
use Rattle.ospf_spf.specs.declared.routes.Reach.{Reach}

larger_network : (a b : Vertex) → IsLargerNetwork a b → (m n : ℕ) × (a ≡ Network m) × (b ≡ Network n) × (n < m)
larger_network (Network m) (Network n) h = (m, n, refl, refl, h)
larger_network (Network m) (Router r) h = absurd h
larger_network (Router r) b h = absurd h

cases_le : (m n : ℕ) → (m ≤ n) ⊎ (n < m)
cases_le m n = grind arith

module _ (A : List Advertisement) (root : RouterId) (ends : List End) (settled : List Settled) (starts : List VertexStart) (reaches : List Reach)
    (listed : IsListed A root) (graph_tree : IsTree (IsEdge A) (Router root) (AtIn settled) (StartsIn starts))
    (reaches_are : (r : Reach) → Contains reaches r ↔ IsReachOf ends settled r) where
  abbrev pub Reached : Prefix → Vertex → ℕ → Type 0
  Reached p v k = IsReach A root listed (AtIn settled) (StartsIn starts) graph_tree p v k

  module _ (p : Prefix) (ends_are : (v : Vertex) (d c : ℕ) → AtIn settled v d → Contains ends (record { prefix = p; vertex = v; cost = c }) ↔ IsEnd A p v c) where
    pub to_reach : (v : Vertex) (k : ℕ) → Reached p v k → Contains reaches (record { prefix = p; vertex = v; cost = k })
    to_reach v k r =
        let e : End = record { prefix = p; vertex = v; cost = r.1 } in
        (reaches_are _).1 (e, (ends_are v r.0 r.1 r.2).1 r.3, r.0, r.2, λ i. record { prefix = p; vertex = v; cost = r.4 i })

    from_reach : (r : Reach) → r.prefix ≡ p → Contains reaches r → Reached p r.vertex r.cost
    from_reach r of h =
        let m = (reaches_are r).0 h in
        let at : m.0.prefix ≡ p = sym (ap (λ (x : Reach). x.prefix) m.4) ∙ of in
        let there : Contains ends (record { prefix = p; vertex = m.0.vertex; cost = m.0.cost }) = subst (λ (q : Prefix). Contains ends (record { prefix = q; vertex = m.0.vertex; cost = m.0.cost })) at m.1 in
        let reached : Reached p m.0.vertex (m.2 + m.0.cost) = (m.2, m.0.cost, m.3, (ends_are m.0.vertex m.2 m.0.cost m.3).0 there, refl) in
        subst (λ x. Reached p x.vertex x.cost) (sym m.4) reached

    route_here : (route : Route) → route.prefix ≡ p → IsRouteOf reaches starts route → IsReachedRoute Reached (StartsIn starts) route
    route_here route of is =
        record {
          end = is.cost.end;
          reached = here is.cost.end route.cost (from_reach _ of is.cost.attained);
          least = λ v k r. is.cost.least v k (there v k r);
          in_order = is.hops.in_order;
          hops = λ hop. (
            λ h. elim ((is.hops.members hop).0 h) [
              | inl none ↦ absurd (let low = none.1 in omega arith)
              | inr m ↦
                  let at : Reached p m.0.vertex m.0.cost = from_reach m.0 (m.2 ∙ of) m.1 in (
                    m.0.vertex,
                    here m.0.vertex route.cost (subst (λ k. Reached p m.0.vertex k) m.3 at),
                    (λ k n e r. elim (cases_le k n) [
                      | inl le ↦ le
                      | inr more ↦ absurd (m.4 (record { prefix = route.prefix; vertex = Network k; cost = route.cost }) (there (Network k) route.cost r)
                          (let P : Vertex → Type 0 = λ v. IsLargerNetwork (Network k) v in subst P (sym e) more, sym m.2, sym m.3))
                    ]),
                    m.5.0,
                    m.5.1,
                    m.5.2,
                  )
            ],
            λ m. (is.hops.members hop).1 (inr (
              record { prefix = route.prefix; vertex = m.0; cost = route.cost },
              there m.0 route.cost m.1,
              refl,
              refl,
              (λ other in_reaches excludes.
                  let l = larger_network other.vertex m.0 excludes.0 in
                  let at : Reached p other.vertex other.cost = from_reach other (excludes.1 ∙ of) in_reaches in
                  let at_cost : Reached route.prefix (Network l.0) route.cost =
                  here (Network l.0) route.cost (subst (λ k. Reached p (Network l.0) k) excludes.2 (subst (λ v. Reached p v other.cost) l.2 at)) in
                  let low : l.0 ≤ l.1 = m.2 l.0 l.1 l.3 at_cost in
                  let high : l.1 < l.0 = l.4 in
                  omega arith),
              (m.3, m.4, m.5),
            )),
          );
        }
      where
        here : (v : Vertex) (k : ℕ) → Reached p v k → Reached route.prefix v k
        here v k r = subst (λ (q : Prefix). Reached q v k) (sym of) r

        there : (v : Vertex) (k : ℕ) → Reached route.prefix v k → Contains reaches (record { prefix = route.prefix; vertex = v; cost = k })
        there v k r =
            subst (λ (q : Prefix). Contains reaches (record { prefix = q; vertex = v; cost = k })) (sym of) (to_reach v k (subst (λ (q : Prefix). Reached q v k) of r))

    -- the route to the prefix, of ends that have all of it
    pub route_is : (route : Route) → route.prefix ≡ p → IsRouteOf reaches starts route → IsRoute A root route
    route_is route of is = route_exact A root listed (AtIn settled) (StartsIn starts) graph_tree route (route_here route of is)

  ends_within : AreEndsWithin A settled ends → (p : Prefix) (v : Vertex) (d c : ℕ) → AtIn settled v d → Contains ends (record { prefix = p; vertex = v; cost = c }) ↔ IsEnd A p v c
  ends_within ends_are p v d c at = ends_are (record { prefix = p; vertex = v; cost = c }) d at

  pub table_is : AreEndsWithin A settled ends → (routes : List Route) → AllPairs (λ p q. IsPrefixBefore p.prefix q.prefix) routes
      → ((r : Reach) → Contains reaches r → (route : Route) × Contains routes route × (route.prefix ≡ r.prefix))
      → All (IsRouteOf reaches starts) routes → IsTable A root routes
  table_is ends_are routes order complete sound =
      table_exact A root listed (AtIn settled) (StartsIn starts) graph_tree routes order
      (λ p v k r. complete _ (to_reach p (ends_within ends_are p) v k r))
      (λ k d lt. route_here (get_or routes k d).prefix (ends_within ends_are (get_or routes k d).prefix) (get_or routes k d) refl (sound k d lt))

-- no way leads to a prefix of which no end is reached
pub no_way : (A : List Advertisement) (root : RouterId) (ends : List End) (settled : List Settled) (starts : List VertexStart) → IsListed A root
    → IsTree (IsEdge A) (Router root) (AtIn settled) (StartsIn starts) → (p : Prefix)
    → ((v : Vertex) (d c : ℕ) → AtIn settled v d → Contains ends (record { prefix = p; vertex = v; cost = c }) ↔ IsEnd A p v c)
    → ((r : Reach) → IsReachOf ends settled r → r.prefix ≡ p → ⊥) → Way A root p → ⊥
no_way A root ends settled starts listed tree p ends_are none w =
    let r = reach_of_way A root listed (AtIn settled) (StartsIn starts) tree p w in
    let m = r.1 in
    let e : End = record { prefix = p; vertex = w.end; cost = m.1 } in
    none (record { prefix = p; vertex = w.end; cost = m.0 + m.1 }) (e, (ends_are w.end m.0 m.1 m.2).1 m.3, m.0, m.2, refl) refl
