-- A router that starts can name nothing and asks for nothing.
use Rattle.ospf_area.proofs.Words.{neighbours_in}
use Rattle.std.proofs.Common.{◌≡◌, ℕ, zero, suc, ℤ, List, [], ◌∷◌, length, refl, sym, ap, subst, Contains, slice_get}
use Rattle.ospf_area.specs.State.{AreaValue, LinkValue, WaitsIn}
use Rattle.ospf_base.specs.declared.ids.Instance.{Instance}
use Rattle.ospf_base.specs.declared.ids.RouterId.{RouterId}
use Rattle.ospf_config.specs.declared.config.Config.{Config}
use Rattle.ospf_config.specs.declared.interface.Interface.{Interface}
use Rattle.ospf_world.specs.World.{IsRunningStarted}
use Rattle.ospf_world.specs.declared.logs.Issued.{Issued}
use Rattle.ospf_world.specs.declared.logs.Run.{Run}
use Rattle.ospf_router.proofs.AreaStep.StateFacts.{Contains-nil, list_in, delayed_in}
use Rattle.ospf_router.specs.AreaStep.Counts.{none_dropped_on}
use Rattle.ospf_router.specs.AreaStep.Headers.{Lists}
use Rattle.ospf_router.specs.declared.step.counts.DropCounts.{DropCounts}
use Rattle.ospf_router.specs.AreaStep.Words.{Asks, CanName}
use Rattle.ospf_lsa.specs.declared.header.LsaHeader.{LsaHeader}
use Rattle.ospf_neighbour.specs.Neighbour.{NeighbourValue}
use Rattle.ospf_neighbour.specs.Neighbours.{neighbour_of}
use Rattle.ospf_router.specs.Routers.{RouterValue}
use Rattle.ospf_router.specs.Starts as router
use Rattle.ospf_world.specs.Running.{Begins}
use Rattle.std.proofs.lemmas.Option.{none-some}
use Rattle.ospf_router.proofs.StartLemmas.{empty_routes}

no_neighbours : (r : RouterId) (is : List Interface) (links : List LinkValue) → router.AreLinksOf r is links → (l : ℕ) → neighbours_in (slice_get links l) ≡ []
no_neighbours r [] [] are l = refl
no_neighbours r [] (m ∷ ms) are l = absurd are
no_neighbours r (x ∷ xs) [] are l = absurd are
no_neighbours r (x ∷ xs) (m ∷ ms) are zero = are.0.neighbours
no_neighbours r (x ∷ xs) (m ∷ ms) are (suc l) = no_neighbours r xs ms are.1 l

none_delayed : (r : RouterId) (is : List Interface) (links : List LinkValue) → router.AreLinksOf r is links → (l : ℕ) → delayed_in (slice_get links l) ≡ []
none_delayed r [] [] are l = refl
none_delayed r [] (m ∷ ms) are l = absurd are
none_delayed r (x ∷ xs) [] are l = absurd are
none_delayed r (x ∷ xs) (m ∷ ms) are zero = are.0.delayed
none_delayed r (x ∷ xs) (m ∷ ms) are (suc l) = none_delayed r xs ms are.1 l

lists_none : (headers : List LsaHeader) (i : Instance) → headers ≡ [] → Lists headers i → ⊥
lists_none headers i none (h, c, is) = Contains-nil h (subst (λ hs. Contains hs h) none c)

-- a list of a neighbour, where a link has none
list_of_none : (list : NeighbourValue → List LsaHeader) (ns : List NeighbourValue) (q : RouterId) → ns ≡ [] → list_in list (neighbour_of ns q) ≡ []
list_of_none list ns q none = ap (λ ns. list_in list (neighbour_of ns q)) none

waits_none : (ns : List NeighbourValue) (q : RouterId) (i : Instance) → ns ≡ [] → WaitsIn (neighbour_of ns q) i → ⊥
waits_none ns q i none w = subst (λ ns. WaitsIn (neighbour_of ns q) i) none w

names_none : (config : Config) (dd : ℕ) (floor : ℤ) (links : List LinkValue) → router.AreLinksOf config.router_id config.interfaces.items links → (i : Instance) → CanName (router.area_of config dd floor links) i → ⊥
names_none config dd floor links are i (CanName.InDatabase (lsa, c, is)) = none-some lsa c
names_none config dd floor links are i (CanName.OnRetransmissionList l q w) = waits_none _ q i (no_neighbours _ _ links are l) w
names_none config dd floor links are i (CanName.OnSummaryList l q lists) = lists_none _ i (list_of_none (λ n. n.summary) _ q (no_neighbours _ _ links are l)) lists
names_none config dd floor links are i (CanName.InLastDd l q lists) = lists_none _ i (list_of_none (λ n. n.last_dd) _ q (no_neighbours _ _ links are l)) lists
names_none config dd floor links are i (CanName.ToAcknowledge l lists) = lists_none _ i (none_delayed _ _ links are l) lists
names_none config dd floor links are i (CanName.ToAcknowledgeNow (h, c, is)) = Contains-nil h c

asks_none : (config : Config) (dd : ℕ) (floor : ℤ) (links : List LinkValue) → router.AreLinksOf config.router_id config.interfaces.items links → (l : ℕ) (q : RouterId) (i : Instance) → Asks (router.area_of config dd floor links) l q i → ⊥
asks_none config dd floor links are l q i lists = lists_none _ i (list_of_none (λ n. n.requests) _ q (no_neighbours _ _ links are l)) lists

started_now : (config : Config) (dd : ℕ) (floor : ℤ) (links : List LinkValue) → router.AreLinksOf config.router_id config.interfaces.items links → (log : List Issued) (first : Run) → first ≡ record { name = length log; base = floor } →
    IsRunningStarted log config.router_id floor (record { state = router.area_of config dd floor links; table = []; first = first; later = [] })
started_now config dd floor links are log first is = record {
  router = refl;
  first = is;
  later = refl;
  empty = λ key. refl;
  names_none = names_none config dd floor links are;
  asks_none = asks_none config dd floor links are;
  numbers_none = λ key. refl;
  table = record {
    is_database = record { rising = tt; ages = tt };
    is_listing = record { rising = tt; listed = tt };
    is_table = empty_routes config.router_id;
  };
}

-- a router that starts begins a run
pub begins : (config : Config) (dd : ℕ) (floor : ℤ) (issued : ℕ) (r : RouterValue) (drops : List DropCounts) → router.IsStarted config dd floor r → drops ≡ none_dropped_on config.interfaces.items →
    Begins config dd issued floor (record { router = r; first = record { name = issued; base = floor }; later = []; drops = drops })
begins config dd floor issued r drops s none = record {
  drops = none;
  area = s.area;
  runs = s.runs;
  started = λ log is. record {
    area = s.is;
    table = s.table;
    begins =
        subst (λ (a : AreaValue). IsRunningStarted log config.router_id floor (record { state = a; table = r.table; first = first; later = [] })) (sym s.is.rest)
        (subst (λ t. IsRunningStarted log config.router_id floor (record { state = router.area_of config dd floor s.area.links; table = t; first = first; later = [] })) (sym s.table)
        (started_now config dd floor s.area.links s.is.links log first (ap (λ n. record { name = n; base = floor }) (sym is))));
  };
}
  where
    first : Run
    first = record { name = issued; base = floor }
