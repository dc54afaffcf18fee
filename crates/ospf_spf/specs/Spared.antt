-- Ends in the order of their prefixes, and prefixes whose routes are the same over two listings.
use Rattle.std.specs.Prelude.{◌≡◌, List, Contains}
use Rattle.std.specs.List.Sorted.{IsNonDecreasingBy}
use Rattle.ospf_base.specs.declared.prefix.Prefix.{Prefix}
use Rattle.ospf_base.specs.declared.ids.RouterId.{RouterId}
use Rattle.ospf_graph.specs.declared.edges.end.End.{End}
use Rattle.ospf_graph.specs.Advertisements.{Advertisement}
use Rattle.ospf_graph.specs.Routes.{IsRoute, Way}
use Rattle.ospf_graph.specs.declared.route.Route.{Route}
use Rattle.ospf_spf.specs.Reach.{prefix_code}
use Rattle.ospf_spf.specs.declared.changes.Change.{Change}
use Rattle.ospf_spf.specs.declared.changes.Change.TheVariants.{Put, Gone}

-- the ends are in the order of their prefixes
abbrev pub AreEndsInOrder : List End → Type 0
AreEndsInOrder ends = IsNonDecreasingBy (λ e. prefix_code e.prefix) ends

-- the change is right: it puts the route to its prefix, or says that no path leads to it
abbrev pub IsRight : List Advertisement → RouterId → Change → Type 0
IsRight adverts root (Put route) = IsRoute adverts root route
IsRight adverts root (Gone prefix) = Way adverts root prefix → ⊥

-- a prefix to which the routes over the one listing are those over the other
pub record IsSparedPrefix (A B : List Advertisement) (root : RouterId) (p : Prefix) : Type 0 where
  pub routes : (r : Route) → r.prefix ≡ p → IsRoute A root r → IsRoute B root r
  pub ways : Way B root p → Way A root p

-- but for prefixes of the list, the routes over the one listing are those over the other
abbrev pub SparesBut : List Prefix → List Advertisement → List Advertisement → RouterId → Type 0
SparesBut touched A B root = (p : Prefix) → (Contains touched p → ⊥) → IsSparedPrefix A B root p
