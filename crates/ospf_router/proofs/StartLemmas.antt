-- A router that starts is fit, and its empty table is that of its empty listing.
use Rattle.std.proofs.lemmas.Option.{none-some}
use Rattle.std.proofs.Common.{◌≡◌, ◌≢◌, ◌≤◌, ◌<◌, ◌++◌, ◌+◌, ℕ, ℤ, zero, suc, slice_get, Some, List, [], ◌∷◌, AllPairs, get_or, length, map, take, refl, sym, ap, subst, ◌∙◌, arith, add-one}
use Rattle.std.specs.List.{AllByRecursion}
use Rattle.ospf_router.proofs.AreaStep.StateFacts.{Contains-nil}
use Rattle.std.specs.Prelude.{slice_index_or}
use Rattle.ospf_config.specs.Conflicts.{Conflict}
use Rattle.ospf_config.specs.Conflicts.Conflict.{one_address}
use Rattle.ospf_config.specs.declared.config.Config.{Config}
use Rattle.ospf_graph.specs.EdgeLists.Listed.{advertisements_of}
use Rattle.ospf_graph.proofs.TableLemmas.{pairs_tail}
use Rattle.ospf_graph.specs.Routes.{IsTable}
use Rattle.ospf_lsa.specs.Lsa.{key_of}
use Rattle.ospf_lsdb.specs.Database.{IsDatabase, entry_of, listed}
use Rattle.ospf_originate.specs.Laws.{StartsSound}
use Rattle.ospf_originate.specs.Sound.{AreApart, AreSetUp, IsSetUp, IsSound}
use Rattle.ospf_router.specs.Routes.{AreRoutes}
use Rattle.ospf_router.specs.Listings.{ListsAs}
use Rattle.ospf_router.specs.Routes.{RoutesValue}
use Rattle.ospf_base.specs.Sums.{contents}
use Rattle.std.proofs.Math.Seq.{take-suc}
use Rattle.ospf_adjacency.specs.Elections.{AreOfLink}
use Rattle.ospf_base.specs.Masks.{IsMask}
use Rattle.ospf_base.specs.declared.ids.RouterId.{RouterId}
use Rattle.ospf_config.specs.declared.interface.Interface.{Interface}
use Rattle.ospf_area.specs.State.{AreaValue, LinkValue, WaitsIn}
use Rattle.ospf_area.proofs.Words.{copy_in, neighbours_in}
use Rattle.ospf_neighbour.specs.declared.iface.machine.Iface.{Iface}
use Rattle.ospf_neighbour.specs.Neighbour.{NeighbourValue}
use Rattle.ospf_router.specs.AreaStep.Words.{IsSoundState}
use Rattle.ospf_neighbour.specs.Neighbours.{max_neighbours, neighbour_of}
use Rattle.ospf_router.specs.AreaStep.Fit.{IsFitRouter, IsFitLink}
use Rattle.ospf_router.specs.Starts.{AreLinksOf, IsAreaOf, IsLinkOf, area_of}

-- one link more
pub one_more : (r : RouterId) (xs : List Interface) (ls : List LinkValue) (x : Interface) (l : LinkValue) → AreLinksOf r xs ls → IsLinkOf r x l → AreLinksOf r (xs ++ x ∷ []) (ls ++ l ∷ [])
one_more r [] [] x l are is = (is, tt)
one_more r [] (m ∷ ms) x l are is = absurd are
one_more r (y ∷ ys) [] x l are is = absurd are
one_more r (y ∷ ys) (m ∷ ms) x l are is = (are.0, one_more r ys ms x l are.1 is)

pub next_link : (r : RouterId) (xs : List Interface) (i : ℕ) (x : Interface) (ls : List LinkValue) (l : LinkValue) → i < length xs → x ≡ get_or xs i x → AreLinksOf r (take i xs) ls → IsLinkOf r x l → AreLinksOf r (take (i + 1) xs) (ls ++ l ∷ [])
next_link r xs i x ls l lt at are is =
    subst (λ (n : ℕ). AreLinksOf r (take n xs) (ls ++ l ∷ [])) (sym (add-one i))
    (subst (λ (ys : List Interface). AreLinksOf r ys (ls ++ l ∷ [])) (sym (take-suc xs i x lt)) (one_more r (take i xs) ls (get_or xs i x) l are (subst (λ (y : Interface). IsLinkOf r y l) at is)))

-- ---- links that are fit

link_fit : (r : RouterId) (i : Interface) (l : LinkValue) → IsLinkOf r i l → IsFitLink r l
link_fit r i l is = record {
  own = ap (λ (x : Iface). x.settings.router) is.iface;
  neighbours = subst (λ (ns : List NeighbourValue). AreOfLink l.iface ns) (sym is.neighbours) (record { rising = tt; others = tt });
  electing = λ due. absurd (let off = is.elects in cc);
}

pub all_fit : (r : RouterId) (xs : List Interface) (ls : List LinkValue) → AreLinksOf r xs ls → AllByRecursion (IsFitLink r) ls
all_fit r [] [] are = tt
all_fit r [] (m ∷ ms) are = absurd are
all_fit r (x ∷ xs) [] are = absurd are
all_fit r (x ∷ xs) (m ∷ ms) are = (link_fit r x m are.0, all_fit r xs ms are.1)

pub as_many : (r : RouterId) (xs : List Interface) (ls : List LinkValue) → AreLinksOf r xs ls → length ls ≡ length xs
as_many r [] [] are = refl
as_many r [] (m ∷ ms) are = absurd are
as_many r (x ∷ xs) [] are = absurd are
as_many r (x ∷ xs) (m ∷ ms) are = ap suc (as_many r xs ms are.1)

-- ---- links that are set up

link_set_up : (r : RouterId) (i : Interface) (l : LinkValue) → IsLinkOf r i l → IsSetUp l
link_set_up r i l is = record {
  mask = subst (λ (x : Iface). IsMask x.settings.mask) (sym is.iface) (i.address.length, (let most = i.address.host.short in omega (arith, most)), refl);
  few = subst (λ (ns : List NeighbourValue). length ns ≤ max_neighbours) (sym is.neighbours) (omega (arith));
  two_ends = λ kind. subst (λ (ns : List NeighbourValue). length ns ≤ 1) (sym is.neighbours) (omega (arith));
}

all_set_up : (r : RouterId) (xs : List Interface) (ls : List LinkValue) → AreLinksOf r xs ls → AllByRecursion IsSetUp ls
all_set_up r [] [] are = tt
all_set_up r [] (m ∷ ms) are = absurd are
all_set_up r (x ∷ xs) [] are = absurd are
all_set_up r (x ∷ xs) (m ∷ ms) are = (link_set_up r x m are.0, all_set_up r xs ms are.1)

-- interfaces that can stand side by side
abbrev SideBySide : Interface → Interface → Type 0
SideBySide a b = Conflict a.address b.address → ⊥

-- the first with each later one
first_beside : (x : Interface) (xs : List Interface) → AllPairs SideBySide (x ∷ xs) → (k : ℕ) → k < length xs → (d : Interface) → SideBySide x (slice_index_or xs k d)
first_beside x xs pairs k within d = pairs 0 (suc k) d (omega (arith)) (omega (arith, within))

others_beside : (r : RouterId) (x : Interface) (m : LinkValue) (xs : List Interface) (ls : List LinkValue) → IsLinkOf r x m → AreLinksOf r xs ls → ((k : ℕ) → k < length xs → (d : Interface) → SideBySide x (slice_index_or xs k d))
    → AllByRecursion (λ o. o.iface.settings.address.0 ≢ m.iface.settings.address.0) ls
others_beside r x m [] [] is are beside = tt
others_beside r x m [] (l ∷ ls) is are beside = absurd are
others_beside r x m (y ∷ ys) [] is are beside = absurd are
others_beside r x m (y ∷ ys) (l ∷ ls) is are beside = (
  (λ same. beside 0 (omega (arith)) y (one_address (sym (ap (λ (i : Iface). i.settings.address.0) is.iface) ∙ (sym same ∙ ap (λ (i : Iface). i.settings.address.0) are.0.iface)))),
  others_beside r x m ys ls is are.1 (λ k within d. beside (suc k) (omega (arith, within)) d),
)

all_apart : (r : RouterId) (xs : List Interface) (ls : List LinkValue) → AreLinksOf r xs ls → AllPairs SideBySide xs → AreApart ls
all_apart r [] [] are pairs = tt
all_apart r [] (m ∷ ms) are pairs = absurd are
all_apart r (x ∷ xs) [] are pairs = absurd are
all_apart r (x ∷ xs) (m ∷ ms) are pairs = (others_beside r x m xs ms are.0 are.1 (first_beside x xs pairs), all_apart r xs ms are.1 (pairs_tail SideBySide x xs pairs))

pub links_set_up : (config : Config) (ls : List LinkValue) → AreLinksOf config.router_id config.interfaces.items ls → length config.interfaces.items ≤ 32 → AreSetUp ls
links_set_up config ls are most = record {
  few = subst (λ (n : ℕ). n ≤ 32) (sym (as_many config.router_id config.interfaces.items ls are)) most;
  each = all_set_up config.router_id config.interfaces.items ls are;
  apart = all_apart config.router_id config.interfaces.items ls are config.no_conflict;
}

-- ---- the router

pub area_fit : StartsSound → (config : Config) (dd_start : ℕ) (floor : ℤ) (s : AreaValue) → IsAreaOf config dd_start floor s → length config.interfaces.items ≤ 32 → length config.stubs.items ≤ 63
    → IsFitRouter s
area_fit law config dd_start floor s is most few =
    let now : AreaValue = area_of config dd_start floor s.links in
    let sound : IsSound now = law.begun now (links_set_up config s.links is.links most) few refl refl refl in
    let fit : IsFitRouter now = record { links = all_fit config.router_id config.interfaces.items s.links is.links; sound = sound } in
    subst (λ (x : AreaValue). IsFitRouter x) (sym is.rest) fit

pub empty_routes : (r : RouterId) → IsTable (advertisements_of []) r []
unfolding advertisements_of
empty_routes r = record {
  in_order = λ i j d lt within. absurd (omega arith);
  complete = λ prefix way. absurd (Contains-nil _ way.listed.1);
  sound = λ k d within. absurd (omega arith);
}

no_database : IsDatabase []
no_database = record { rising = tt; ages = tt }

pub start_routes : (config : Config) (dd_start : ℕ) (floor : ℤ) (s : AreaValue) → IsAreaOf config dd_start floor s → AreRoutes s.router s.database []
start_routes config dd_start floor s is =
    let now : AreaValue = area_of config dd_start floor s.links in
    let routes : AreRoutes now.router now.database [] = record { database = no_database; listing = record { rising = tt; listed = tt }; routes = empty_routes config.router_id } in
    subst (λ (x : AreaValue). AreRoutes x.router x.database []) (sym is.rest) routes

-- and it lists nothing
pub start_lists : (config : Config) (dd_start : ℕ) (floor : ℤ) (s : AreaValue) → IsAreaOf config dd_start floor s → (routes : RoutesValue) → routes.listing ≡ [] → ListsAs s.database routes.listing
start_lists config dd_start floor s is routes none =
    let lists : map contents (listed (area_of config dd_start floor s.links).database) ≡ map contents routes.listing = ap (map contents) (sym none) in
    subst (λ (x : AreaValue). ListsAs x.database routes.listing) (sym is.rest) lists

-- ---- nothing is held, and nothing waits

none_beside : (r : RouterId) (xs : List Interface) (ls : List LinkValue) (l : ℕ) → AreLinksOf r xs ls → neighbours_in (slice_get ls l) ≡ []
none_beside r [] [] l are = refl
none_beside r [] (m ∷ ms) l are = absurd are
none_beside r (x ∷ xs) [] l are = absurd are
none_beside r (x ∷ xs) (m ∷ ms) zero are = are.0.neighbours
none_beside r (x ∷ xs) (m ∷ ms) (suc l) are = none_beside r xs ms l are.1

no_copy : (lsa : List ℕ) → copy_in (entry_of [] (key_of lsa)) ≡ Some lsa → ⊥
no_copy lsa has = none-some lsa has

pub area_sound : (config : Config) (dd_start : ℕ) (floor : ℤ) (s : AreaValue) → IsAreaOf config dd_start floor s → IsSoundState s
area_sound config dd_start floor s is =
    let now : AreaValue = area_of config dd_start floor s.links in
    let sound : IsSoundState now = record {
      lsas = λ lsa has. absurd (no_copy lsa has);
      numbers = λ lsa has own. absurd (no_copy lsa has);
      lists = λ l q i waits. absurd (subst (λ (ns : List NeighbourValue). WaitsIn (neighbour_of ns q) i) (none_beside config.router_id config.interfaces.items s.links l is.links) waits);
    } in
    subst (λ (x : AreaValue). IsSoundState x) (sym is.rest) sound
