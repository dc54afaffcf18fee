-- A prefix whose ends are reached over two listings as far, from the same starts, has the same routes.
use Rattle.std.proofs.Common.{◌≡◌, ◌↔◌, ℕ, List, sym, subst}
use Rattle.ospf_base.specs.declared.ids.RouterId.{RouterId}
use Rattle.ospf_base.specs.declared.prefix.Prefix.{Prefix}
use Rattle.ospf_graph.specs.Advertisements.{Advertisement, IsListed}
use Rattle.ospf_graph.specs.Graph.{IsEdge}
use Rattle.ospf_graph.specs.Routes.{IsEnd, IsRoute, Way}
use Rattle.ospf_graph.specs.Search.{AtIn, StartsIn}
use Rattle.ospf_graph.specs.Tree.{IsTree}
use Rattle.ospf_graph.specs.declared.graph.Start.{Start}
use Rattle.ospf_graph.specs.declared.graph.Vertex.{Vertex}
use Rattle.ospf_graph.specs.declared.graph.Vertex.TheVariants.{Network, Router}
use Rattle.ospf_graph.specs.declared.route.Route.{Route}
use Rattle.ospf_spf.specs.IncrementalSpf.Kept.{KeptTree}
use Rattle.ospf_spf.proofs.RouteLemmas.{IsReach, reach_of_way, route_exact, route_reached, way_of_reach, IsReachedRoute}
use Rattle.ospf_spf.specs.Spared.{IsSparedPrefix}

-- what is reached of the prefix's ends is the same
pub record IsKeptHere (A B : List Advertisement) (paths grown : KeptTree) (p : Prefix) : Type 0 where
  pub to : (w : Vertex) (d c : ℕ) → AtIn paths.settled w d → IsEnd A p w c → AtIn grown.settled w d × IsEnd B p w c
  pub from : (w : Vertex) (d c : ℕ) → AtIn grown.settled w d → IsEnd B p w c → AtIn paths.settled w d × IsEnd A p w c
  pub starts : (w : Vertex) (d c : ℕ) (x : Start) → AtIn paths.settled w d → IsEnd A p w c → StartsIn paths.starts w x ↔ StartsIn grown.starts w x

-- a route over the same reaches
module _ (R S : Prefix → Vertex → ℕ → Type 0) (Starts Starts' : Vertex → Start → Type 0) (route : Route)
    (to : (v : Vertex) (k : ℕ) → R route.prefix v k → S route.prefix v k) (from : (v : Vertex) (k : ℕ) → S route.prefix v k → R route.prefix v k)
    (starts : (v : Vertex) (k : ℕ) (x : Start) → R route.prefix v k → Starts v x ↔ Starts' v x) where
  pub route_stays : IsReachedRoute R Starts route → IsReachedRoute S Starts' route
  route_stays is =
      record {
        end = is.end;
        reached = to is.end route.cost is.reached;
        least = λ v k r. is.least v k (from v k r);
        in_order = is.in_order;
        hops = λ hop. (
          λ h.
              let m = (is.hops hop).0 h in
              (m.0, to m.0 route.cost m.1, (λ i n e r. m.2 i n e (from (Network i) route.cost r)), m.3, (starts m.0 route.cost m.3 m.1).0 m.4, m.5),
          λ m.
              let r = from m.0 route.cost m.1 in
              (is.hops hop).1 (m.0, r, (λ i n e q. m.2 i n e (to (Network i) route.cost q)), m.3, (starts m.0 route.cost m.3 r).1 m.4, m.5),
        );
      }

module _ (A B : List Advertisement) (root : RouterId) (paths grown : KeptTree)
    (was : IsTree (IsEdge A) (Router root) (AtIn paths.settled) (StartsIn paths.starts)) (now : IsTree (IsEdge B) (Router root) (AtIn grown.settled) (StartsIn grown.starts))
    (listed_to : IsListed A root → IsListed B root) (listed_from : IsListed B root → IsListed A root) (p : Prefix) (kept : IsKeptHere A B paths grown p) where
  module _ (of_a : IsListed A root) (of_b : IsListed B root) where
    abbrev Before : Prefix → Vertex → ℕ → Type 0
    Before q v k = IsReach A root of_a (AtIn paths.settled) (StartsIn paths.starts) was q v k

    abbrev After : Prefix → Vertex → ℕ → Type 0
    After q v k = IsReach B root of_b (AtIn grown.settled) (StartsIn grown.starts) now q v k

    reach_to : (v : Vertex) (k : ℕ) → Before p v k → After p v k
    reach_to v k r = let m = kept.to v r.0 r.1 r.2 r.3 in (r.0, r.1, m.0, m.1, r.4)

    reach_from : (v : Vertex) (k : ℕ) → After p v k → Before p v k
    reach_from v k r = let m = kept.from v r.0 r.1 r.2 r.3 in (r.0, r.1, m.0, m.1, r.4)

    same_starts : (v : Vertex) (k : ℕ) (x : Start) → Before p v k → StartsIn paths.starts v x ↔ StartsIn grown.starts v x
    same_starts v k x r = kept.starts v r.0 r.1 x r.2 r.3

    route_kept : (route : Route) → route.prefix ≡ p → IsRoute A root route → IsRoute B root route
    route_kept route of is =
        route_exact B root of_b (AtIn grown.settled) (StartsIn grown.starts) now route
        (route_stays Before After (StartsIn paths.starts) (StartsIn grown.starts) route
        (subst (λ (q : Prefix). (v : Vertex) (k : ℕ) → Before q v k → After q v k) (sym of) reach_to)
        (subst (λ (q : Prefix). (v : Vertex) (k : ℕ) → After q v k → Before q v k) (sym of) reach_from)
        (subst (λ (q : Prefix). (v : Vertex) (k : ℕ) (x : Start) → Before q v k → StartsIn paths.starts v x ↔ StartsIn grown.starts v x) (sym of) same_starts)
        (route_reached A root of_a (AtIn paths.settled) (StartsIn paths.starts) was route is))

    way_kept : Way B root p → Way A root p
    way_kept w =
        let r = reach_of_way B root of_b (AtIn grown.settled) (StartsIn grown.starts) now p w in
        (way_of_reach A root of_a (AtIn paths.settled) (StartsIn paths.starts) was p w.end r.0 (reach_from w.end r.0 r.1)).0

  pub kept_routes : IsSparedPrefix A B root p
  kept_routes =
      record {
        routes = λ route of is. route_kept is.way.listed (listed_to is.way.listed) route of is;
        ways = λ w. way_kept (listed_from w.listed) w.listed w;
      }
