-- Whether all routers that a router reaches run and list the same.
use Rattle.std.proofs.Common.{Bool, ◌≡◌, ◌∙◌, ◌≤◌, ◌<◌, ◌+◌, ◌==◌, ◌++◌, ◌⊎◌, ◌↔◌, inl, inr, ℕ, zero, suc, List, [], ◌∷◌, Option, None, Some, Contains, Ok, Err, IfOk, Result, ap, arith, cond, false, find, get_or, is_some, length, length-append, get_or-append-add, not, option_and_then, option_map, refl, subst, subst₂, sym, true}
use Rattle.std.specs.List.{AllByRecursion}
use Rattle.std.specs.List.Sorted.{IsNonDecreasingBy}
use Rattle.std.specs.Borrow.{Bor}
use Rattle.std.proofs.lemmas.List.Elements.{Contains-append_cases}
use Rattle.ospf_base.specs.declared.event.event.WorldFault.{WorldFault}
use Rattle.ospf_base.specs.declared.ids.Instance.{Instance}
use Rattle.ospf_base.specs.declared.ids.RouterId.{RouterId}
use Rattle.ospf_graph.proofs.TreeLemmas.{IsPath-map}
use Rattle.ospf_graph.specs.Advertisements.{IsListed}
use Rattle.ospf_graph.specs.EdgeLists.Given.{IsEdgesOf}
use Rattle.ospf_graph.specs.EdgeLists.Listed.{advertisements_of}
use Rattle.ospf_graph.specs.Graph.{IsEdge, IsPath}
use Rattle.ospf_graph.specs.Search.{AtIn, vertex_code}
use Rattle.ospf_graph.specs.Tree.{IsTree}
use Rattle.ospf_graph.specs.Walk.{IsReachedFrom}
use Rattle.ospf_graph.specs.declared.graph.Edge.{Edge}
use Rattle.ospf_graph.specs.declared.graph.Start.{Start}
use Rattle.ospf_graph.specs.declared.graph.Vertex.{Vertex}
use Rattle.ospf_graph.specs.declared.graph.Vertex.TheVariants.{Router, Network}
use Rattle.ospf_graph.specs.declared.paths.Settled.{Settled}
use Rattle.ospf_world.specs.Listings.{ListTheSame, ListsInstance}
use Rattle.ospf_world.specs.World.{Member, Running, World, listing, member, router_at}
use Rattle.ospf_lsa.specs.Lsa.{instance_of}
use Rattle.ospf_router.specs.Routers.{RouterValue, listing_of}
use Rattle.ospf_world.specs.Worlds.{IsLent, Lends, NoRouter, NotRunning, Runs}
use Rattle.ospf_commands.specs.Premise.{AgreesWith, IsFirstOfVertices, IsFirstToDiffer, IsListedAndReached, IsOfVertex, all_agree, difference_at, difference_of, first_differs, it_differs, none_differs, none_differs_there, one_differs, HoldsFor, IsPremiseOf, IsPremiseOfSlots, fails_for_one, holds_for_all, premise_is_found}
use Rattle.ospf_area.specs.State.{AreaValue}
use Rattle.ospf_world.specs.Worlds.{SlotValue}
use Rattle.ospf_world.specs.Walks.{AllReachedAgree}
use Rattle.std.proofs.lemmas.Option.{same_Some}
use Rattle.ospf_journal.proofs.Listings.{listed_true, true_listed}
use Rattle.ospf_journal.specs.Differences.{difference_between, difference_by, first_extra, lists_instance}
use Rattle.ospf_journal.specs.declared.differs.Difference.{Difference}
use Rattle.ospf_journal.specs.declared.differs.Difference.TheVariants as difference
use Rattle.ospf_views.specs.declared.disagreement.Disagreement.{Disagreement}

-- ---- what is listed

-- each of these is among the others
abbrev AreAllListed : List (List ℕ) → List (List ℕ) → Type 0
AreAllListed others lsas = AllByRecursion (λ l. lists_instance others (instance_of l) ≡ true) lsas

extra_none : (others lsas : List (List ℕ)) → first_extra lsas others ≡ None → AreAllListed others lsas
extra_none others [] h = tt
extra_none others (l ∷ lsas) h = go (lists_instance others (instance_of l)) refl (λ none. extra_none others lsas none) h
  where
    go : (b : Bool) → lists_instance others (instance_of l) ≡ b → (first_extra lsas others ≡ None → AreAllListed others lsas)
        → option_map instance_of (cond (not b) (Some l) (find (λ l. not (lists_instance others (instance_of l))) lsas)) ≡ None → AreAllListed others (l ∷ lsas)
    go true is rest none = (is, rest none)
    go false is rest none = absurd (cc none)

none_extra : (others lsas : List (List ℕ)) → AreAllListed others lsas → first_extra lsas others ≡ None
none_extra others [] all = refl
none_extra others (l ∷ lsas) all =
    subst (λ b. option_map instance_of (cond (not b) (Some l) (find (λ l. not (lists_instance others (instance_of l))) lsas)) ≡ None)
    (sym all.0) (none_extra others lsas all.1)

all_at : (others lsas : List (List ℕ)) → AreAllListed others lsas → (l : List ℕ) → Contains lsas l → lists_instance others (instance_of l) ≡ true
all_at others [] all l (k, within, is) = absurd (omega (arith, within))
all_at others (m ∷ lsas) all l (zero, within, is) = subst (λ x. lists_instance others (instance_of x) ≡ true) is all.0
all_at others (m ∷ lsas) all l (suc k, within, is) = all_at others lsas all.1 l (k, omega (arith, within), is)

all_from : (others lsas : List (List ℕ)) → ((l : List ℕ) → Contains lsas l → lists_instance others (instance_of l) ≡ true) → AreAllListed others lsas
all_from others [] h = tt
all_from others (m ∷ lsas) h = (h m (0, omega arith, refl), all_from others lsas (λ l at. h l (suc at.0, omega (arith, at.1), at.2)))

-- what one lists the other lists, where nothing is more
one_way : (mine theirs : List (List ℕ)) → first_extra mine theirs ≡ None → (i : Instance) → ListsInstance mine i → ListsInstance theirs i
one_way mine theirs none i (lsa, at, is) =
    subst (ListsInstance theirs) is (listed_true theirs (instance_of lsa) (all_at theirs mine (extra_none theirs mine none) lsa at))

none_more : (mine theirs : List (List ℕ)) → ((i : Instance) → ListsInstance mine i → ListsInstance theirs i) → first_extra mine theirs ≡ None
none_more mine theirs h = none_extra theirs mine (all_from theirs mine (λ l at. true_listed theirs (instance_of l) (h (instance_of l) (l, at, refl))))

neither : (a b : Option Instance) → difference_by a b ≡ None → (a ≡ None) × (b ≡ None)
neither None None h = (refl, refl)
neither None (Some j) h = absurd (cc h)
neither (Some i) b h = absurd (cc h)

pub same_if_none : (mine theirs : List (List ℕ)) → difference_between mine theirs ≡ None → ListTheSame mine theirs
same_if_none mine theirs h i =
    let both = neither (first_extra mine theirs) (first_extra theirs mine) h in
    (one_way mine theirs both.0 i, one_way theirs mine both.1 i)

pub none_if_same : (mine theirs : List (List ℕ)) → ListTheSame mine theirs → difference_between mine theirs ≡ None
none_if_same mine theirs same =
    ap (λ a. difference_by a (first_extra theirs mine)) (none_more mine theirs (λ i. (same i).0))
    ∙ ap (difference_by None) (none_more theirs mine (λ i. (same i).1))

-- ---- routers of a world

pub agrees : (w : World) (mine : List (List ℕ)) (q : RouterId) → difference_at w mine q ≡ None → AgreesWith w mine q
agrees w mine q = go (router_at w q) refl
  where
    go : (o : Option Running) → router_at w q ≡ o → difference_of mine o ≡ None → AgreesWith w mine q
    go None is h = absurd (cc h)
    go (Some y) is h = (y, is, same_if_none mine (listing y) h)

pub agreed : (w : World) (mine : List (List ℕ)) (q : RouterId) → AgreesWith w mine q → difference_at w mine q ≡ None
agreed w mine q (y, is, same) = ap (difference_of mine) is ∙ none_if_same mine (listing y) same

-- the router that is lent, as the world has it
pub lent_at : (w : World) (r : RouterId) (x : Bor RouterValue) → Lends w r (Ok x) → (y : Running) × (router_at w r ≡ Some y) × (x.now.area ≡ Some y.state)
unfolding router_at
lent_at w r x (Runs m z is same lends) =
    let one : z ≡ x = cc in
    let lent : IsLent m.running x.now = subst (λ (b : Bor RouterValue). IsLent m.running b.now) one lends in
    (lent.x, ap (option_and_then (λ (m : Member). m.running)) is ∙ lent.runs, lent.area)
lent_at w r x (NoRouter none same) = absurd (cc same)
lent_at w r x (NotRunning m is stopped same) = absurd (cc same)

pub not_at : (w : World) (r : RouterId) (f : WorldFault) → Lends w r (Err f) → router_at w r ≡ None
unfolding router_at
not_at w r f (Runs m z is same lends) = absurd (cc same)
not_at w r f (NoRouter none same) = ap (option_and_then (λ (m : Member). m.running)) none
not_at w r f (NotRunning m is stopped same) = ap (option_and_then (λ (m : Member). m.running)) is ∙ stopped

-- ---- what is reached

reached_at : (is_edge : Edge → Type 0) (root : Vertex) (At : Vertex → ℕ → Type 0) (Starts : Vertex → Start → Type 0) → IsTree is_edge root At Starts
    → (path : List Edge) (u v : Vertex) (d : ℕ) → At u d → IsPath is_edge u path v → (k : ℕ) × At v k
reached_at is_edge root At Starts tree [] u v d at leads = (d, subst (λ x. At x d) leads at)
reached_at is_edge root At Starts tree (e ∷ rest) u v d at leads =
    let next = tree.relaxed e d leads.1 (subst (λ x. At x d) (sym leads.0) at) in
    reached_at is_edge root At Starts tree rest e.to v next.0 next.1 leads.2

later_codes : (b a : List Settled) (s t : Settled) → IsNonDecreasingBy (λ x. vertex_code x.vertex) (b ++ s ∷ a) → Contains (s ∷ a) t
    → vertex_code s.vertex ≤ vertex_code t.vertex
later_codes b a s t order (k, within, is) =
    let h : vertex_code (get_or (b ++ s ∷ a) (length b + 0) t).vertex ≤ vertex_code (get_or (b ++ s ∷ a) (length b + k) t).vertex =
    order (length b + 0) (length b + k) t (omega arith) (omega (arith, length-append b (s ∷ a), within)) in
    subst₂ (λ (x y : Settled). vertex_code x.vertex ≤ vertex_code y.vertex) (get_or-append-add b (s ∷ a) 0 t) (get_or-append-add b (s ∷ a) k t ∙ is) h

at_all : (P : Settled → Type 0) (xs : List Settled) (x : Settled) → AllByRecursion P xs → Contains xs x → P x
at_all P [] x all (k, within, is) = absurd (omega (arith, within))
at_all P (y ∷ xs) x all (zero, within, is) = subst P is all.0
at_all P (y ∷ xs) x all (suc k, within, is) = at_all P xs x all.1 (k, omega (arith, within), is)

module _ (w : World) (a : RouterId) (mine : List (List ℕ)) where
  none_there : (v : Vertex) (found : Option Disagreement) → found ≡ None → IsOfVertex w a mine v found → (q : RouterId) → v ≡ Router q → IsListed (advertisements_of mine) q
      → AgreesWith w mine q
  none_there v found none (none_differs_there h) q is listed = agrees w mine q (h q is listed)
  none_there v found none (it_differs p d is_p listed_p differs) q is listed = absurd (cc none)

  module _ (edges : List Edge) (settled : List Settled) (Starts : Vertex → Start → Type 0) (are : IsEdgesOf (advertisements_of mine) edges)
      (tree : IsTree (Contains edges) (Router a) (AtIn settled) Starts) (order : IsNonDecreasingBy (λ s. vertex_code s.vertex) settled) where
    is_settled : (r : RouterId) → IsReachedFrom (advertisements_of mine) a r → (k : ℕ) × AtIn settled (Router r) k
    is_settled r (path, leads) =
        reached_at (Contains edges) (Router a) (AtIn settled) Starts tree path (Router a) (Router r) 0 tree.root_at
        (IsPath-map (IsEdge (advertisements_of mine)) (Contains edges) (λ e. (are e).1) path (Router a) (Router r) leads)

    is_reached : (q : RouterId) (d : ℕ) → AtIn settled (Router q) d → IsReachedFrom (advertisements_of mine) a q
    is_reached q d at =
        let p = tree.path_of (Router q) d at in
        (p.0, IsPath-map (Contains edges) (IsEdge (advertisements_of mine)) (λ e. (are e).0) p.0 (Router a) (Router q) p.1)

    none_off : AllByRecursion (λ s. IsOfVertex w a mine s.vertex None) settled → (r : RouterId) → IsListedAndReached a mine r → AgreesWith w mine r
    none_off all r (listed, reached) =
        let k = is_settled r reached in
        let s : Settled = record { vertex = Router r; distance = k.0 } in
        none_there (Router r) None refl (at_all (λ s. IsOfVertex w a mine s.vertex None) settled s all k.1) r refl listed

    -- a router of a lesser Router ID stands before
    before_it : (before after : List Settled) (s : Settled) (q : RouterId) → settled ≡ before ++ s ∷ after → s.vertex ≡ Router q
        → AllByRecursion (λ s. IsOfVertex w a mine s.vertex None) before → (r : RouterId) → r.0 < q.0 → IsListedAndReached a mine r → AgreesWith w mine r
    before_it before after s q is at_q all r less (listed, reached) =
        let k = is_settled r reached in
        let t : Settled = record { vertex = Router r; distance = k.0 } in
        let at : Contains (before ++ s ∷ after) t = subst (λ (all : List Settled). Contains all t) is k.1 in
        elim (Contains-append_cases before (s ∷ after) t at) [
          | inl front ↦ none_there (Router r) None refl (at_all (λ s. IsOfVertex w a mine s.vertex None) before t all front) r refl listed
          | inr back ↦ (
              let rises : IsNonDecreasingBy (λ s. vertex_code s.vertex) (before ++ s ∷ after) = subst (IsNonDecreasingBy (λ (s : Settled). vertex_code s.vertex)) is order in
              let codes : vertex_code s.vertex ≤ vertex_code (Router r) = later_codes before after s t rises back in
              let here : vertex_code (Router q) ≤ vertex_code (Router r) = subst (λ (v : Vertex). vertex_code v ≤ vertex_code (Router r)) at_q codes in
              absurd (omega (arith, here, less)))
        ]

    one_off : (before after : List Settled) (s : Settled) (found : Option Disagreement) (d : Disagreement) → found ≡ Some d → settled ≡ before ++ s ∷ after
        → AllByRecursion (λ s. IsOfVertex w a mine s.vertex None) before → IsOfVertex w a mine s.vertex found → IsFirstToDiffer w a mine found
    one_off before after s found d some is all (none_differs_there h) = absurd (cc some)
    one_off before after s found d some is all (it_differs q e at_q listed differs) =
        let here : Contains settled s = subst (λ (all : List Settled). Contains all s) (sym is) (length before, omega (arith, length-append before (s ∷ after)), seam before) in
        let at : AtIn settled (Router q) s.distance = subst (λ (v : Vertex). AtIn settled v s.distance) at_q here in
        one_differs q e (listed, is_reached q s.distance at) differs (before_it before after s q is at_q all)
      where
        seam : (front : List Settled) → get_or (front ++ s ∷ after) (length front) s ≡ s
        seam [] = refl
        seam (x ∷ front) = seam front

    pub first_of_all : (found : Option Disagreement) → IsFirstOfVertices w a mine settled found → IsFirstToDiffer w a mine found
    first_of_all found (none_differs all) = all_agree (none_off all)
    first_of_all found (first_differs before after s d is all there) = one_off before after s (Some d) d refl is all there

-- ---- routers that are gone over

pub pass_vertex : (w : World) (a : RouterId) (mine : List (List ℕ)) (s : Settled) (rest : List Settled) (found : Option Disagreement)
    → IsOfVertex w a mine s.vertex None → IsFirstOfVertices w a mine rest found → IsFirstOfVertices w a mine (s ∷ rest) found
pass_vertex w a mine s rest found passes (none_differs all) = none_differs (passes, all)
pass_vertex w a mine s rest found passes (first_differs before after t d is all there) =
    first_differs (s ∷ before) after t d (ap (λ (more : List Settled). s ∷ more) is) (passes, all) there

pub stop_at_vertex : (w : World) (a : RouterId) (mine : List (List ℕ)) (all rest : List Settled) (s : Settled) (d : Disagreement) → all ≡ s ∷ rest
    → IsOfVertex w a mine s.vertex (Some d) → IsFirstOfVertices w a mine all (Some d)
stop_at_vertex w a mine all rest s d is there = first_differs [] rest s d is tt there

pub pass_slot : (w : World) (s : SlotValue) (rest : List SlotValue) (found : Option Disagreement) → HoldsFor w s → IsPremiseOfSlots w rest found
    → IsPremiseOfSlots w (s ∷ rest) found
pass_slot w s rest found holds (holds_for_all all) = holds_for_all (holds, all)
pass_slot w s rest found holds (fails_for_one before after t x d is all runs first) =
    fails_for_one (s ∷ before) after t x d (ap (λ (more : List SlotValue). s ∷ more) is) (holds, all) runs first

pub stop_at_slot : (w : World) (all rest : List SlotValue) (s : SlotValue) (x : Running) (d : Disagreement) → all ≡ s ∷ rest
    → router_at w s.config.router_id ≡ Some x → IsFirstToDiffer w s.config.router_id (listing x) (Some d) → IsPremiseOfSlots w all (Some d)
stop_at_slot w all rest s x d is runs first = fails_for_one [] rest s x d is tt runs first

all_do : (w : World) (a : RouterId) (mine : List (List ℕ)) (found : Option Disagreement) → found ≡ None → IsFirstToDiffer w a mine found
    → (r : RouterId) → IsListedAndReached a mine r → AgreesWith w mine r
all_do w a mine found none (all_agree all) = all
all_do w a mine found none (one_differs q d there differs below) = absurd (cc none)

pub holds_if_none : (w : World) (a : RouterId) (x : Running) → IsFirstToDiffer w a (listing x) None → AllReachedAgree w a x
holds_if_none w a x none r listed reached = all_do w a (listing x) None refl none r (listed, reached)

-- the router of a slot is lent, and none differs
pub holds_for_lent : (w : World) (s : SlotValue) (lent : Bor RouterValue) → Lends w s.config.router_id (Ok lent)
    → IsFirstToDiffer w s.config.router_id (listing_of lent.now.area) None → HoldsFor w s
holds_for_lent w s lent lends none x runs =
    let at = lent_at w s.config.router_id lent lends in
    let one : at.0 ≡ x = same_Some at.0 x (sym at.1 ∙ runs) in
    let mine : listing_of lent.now.area ≡ listing x = ap listing_of (at.2 ∙ ap (λ (y : Running). Some y.state) one) in
    holds_if_none w s.config.router_id x (subst (λ lsas. IsFirstToDiffer w s.config.router_id lsas None) mine none)

-- it does not run
pub holds_for_none : (w : World) (s : SlotValue) (f : WorldFault) → Lends w s.config.router_id (Err f) → HoldsFor w s
holds_for_none w s f lends x runs = absurd (let no : None ≡ Some x = sym (not_at w s.config.router_id f lends) ∙ runs in cc)

-- what is found for a router that is lent
pub found_for : (w : World) (a : RouterId) (lent : Bor RouterValue) (found : Option Disagreement) → Lends w a (Ok lent)
    → IsFirstToDiffer w a (listing_of lent.now.area) found → IsPremiseOf w a (Ok found)
found_for w a lent found lends first =
    let at = lent_at w a lent lends in
    premise_is_found at.0 found at.1 (subst (λ (area : Option AreaValue). IsFirstToDiffer w a (listing_of area) found) at.2 first) refl

pub stop_at_lent : (w : World) (all rest : List SlotValue) (s : SlotValue) (lent : Bor RouterValue) (found : Option Disagreement) (d : Disagreement) → found ≡ Some d
    → all ≡ s ∷ rest → Lends w s.config.router_id (Ok lent) → IsFirstToDiffer w s.config.router_id (listing_of lent.now.area) found → IsPremiseOfSlots w all found
stop_at_lent w all rest s lent found d some is lends first =
    let at = lent_at w s.config.router_id lent lends in
    let mine = subst (λ (area : Option AreaValue). IsFirstToDiffer w s.config.router_id (listing_of area) found) at.2 first in
    subst (IsPremiseOfSlots w all) (sym some)
    (stop_at_slot w all rest s at.0 d is at.1 (subst (IsFirstToDiffer w s.config.router_id (listing at.0)) some mine))

-- ---- by whether something is found

pub stop_if_some : (w : World) (a : RouterId) (mine : List (List ℕ)) (all rest : List Settled) (s : Settled) (found : Option Disagreement) → is_some found ≡ true
    → all ≡ s ∷ rest → IsOfVertex w a mine s.vertex found → IsFirstOfVertices w a mine all found
stop_if_some w a mine all rest s None some is there = absurd (cc some)
stop_if_some w a mine all rest s (Some d) some is there = stop_at_vertex w a mine all rest s d is there

pub pass_if_none : (w : World) (a : RouterId) (mine : List (List ℕ)) (all rest : List Settled) (s : Settled) (found others : Option Disagreement) → is_some found ≡ false
    → all ≡ s ∷ rest → IsOfVertex w a mine s.vertex found → IsFirstOfVertices w a mine rest others → IsFirstOfVertices w a mine all others
pass_if_none w a mine all rest s None others none is there h =
    subst (λ (l : List Settled). IsFirstOfVertices w a mine l others) (sym is) (pass_vertex w a mine s rest others there h)
pass_if_none w a mine all rest s (Some d) others none is there h = absurd (cc none)

pub stop_slot_if_some : (w : World) (all rest : List SlotValue) (s : SlotValue) (r : RouterId) (lent : Bor RouterValue) (found : Option Disagreement) → is_some found ≡ true
    → all ≡ s ∷ rest → r ≡ s.config.router_id → Lends w r (Ok lent) → IsFirstToDiffer w r (listing_of lent.now.area) found → IsPremiseOfSlots w all found
stop_slot_if_some w all rest s r lent None some is own lends first = absurd (cc some)
stop_slot_if_some w all rest s r lent (Some d) some is own lends first =
    stop_at_lent w all rest s lent (Some d) d refl is (subst (λ (q : RouterId). Lends w q (Ok lent)) own lends)
    (subst (λ (q : RouterId). IsFirstToDiffer w q (listing_of lent.now.area) (Some d)) own first)

pub pass_slot_if_none : (w : World) (all rest : List SlotValue) (s : SlotValue) (r : RouterId) (lent : Bor RouterValue) (found others : Option Disagreement) → is_some found ≡ false
    → all ≡ s ∷ rest → r ≡ s.config.router_id → Lends w r (Ok lent) → IsFirstToDiffer w r (listing_of lent.now.area) found → IsPremiseOfSlots w rest others
    → IsPremiseOfSlots w all others
pass_slot_if_none w all rest s r lent None others none is own lends first h =
    subst (λ (l : List SlotValue). IsPremiseOfSlots w l others) (sym is)
    (pass_slot w s rest others
    (holds_for_lent w s lent (subst (λ (q : RouterId). Lends w q (Ok lent)) own lends) (subst (λ (q : RouterId). IsFirstToDiffer w q (listing_of lent.now.area) None) own first))
    h)
pass_slot_if_none w all rest s r lent (Some d) others none is own lends first h = absurd (cc none)

pub pass_slot_not_lent : (w : World) (all rest : List SlotValue) (s : SlotValue) (r : RouterId) (f : WorldFault) (others : Option Disagreement) → all ≡ s ∷ rest
    → r ≡ s.config.router_id → Lends w r (Err f) → IsPremiseOfSlots w rest others → IsPremiseOfSlots w all others
pass_slot_not_lent w all rest s r f others is own lends h =
    subst (λ (l : List SlotValue). IsPremiseOfSlots w l others) (sym is)
    (pass_slot w s rest others (holds_for_none w s f (subst (λ (q : RouterId). Lends w q (Err f)) own lends)) h)

pub none_of_no_slots : (w : World) (slots : List SlotValue) → length slots ≡ 0 → IsPremiseOfSlots w slots None
none_of_no_slots w [] is = holds_for_all tt
none_of_no_slots w (s ∷ slots) is = absurd (omega (arith, is))

pub none_of_no_vertices : (w : World) (a : RouterId) (mine : List (List ℕ)) (settled : List Settled) → length settled ≡ 0 → IsFirstOfVertices w a mine settled None
none_of_no_vertices w a mine [] is = none_differs tt
none_of_no_vertices w a mine (s ∷ settled) is = absurd (omega (arith, is))

-- what is found by the paths of a listing is found for its router
pub first_of_router : (w : World) (a : RouterId) (mine lsas : List (List ℕ)) (edges : List Edge) (settled : List Settled) (Starts : Vertex → Start → Type 0) (found : Option Disagreement)
    → mine ≡ lsas → IsEdgesOf (advertisements_of mine) edges → IsTree (Contains edges) (Router a) (AtIn settled) Starts
    → IsNonDecreasingBy (λ s. vertex_code s.vertex) settled → IsFirstOfVertices w a mine settled found → IsFirstToDiffer w a lsas found
first_of_router w a mine lsas edges settled Starts found same are tree order first =
    subst (λ (l : List (List ℕ)). IsFirstToDiffer w a l found) same (first_of_all w a mine edges settled Starts are tree order found first)

-- how a router that is lent or not differs
pub difference_of_lent : (w : World) (mine theirs : List (List ℕ)) (r : RouterId) (lent : Bor RouterValue) → Lends w r (Ok lent) → theirs ≡ listing_of lent.now.area
    → difference_between mine theirs ≡ difference_at w mine r
difference_of_lent w mine theirs r lent lends are =
    let at = lent_at w r lent lends in
    ap (difference_between mine) (are ∙ ap listing_of at.2) ∙ ap (difference_of mine) (sym at.1)

pub difference_of_stopped : (w : World) (mine : List (List ℕ)) (r : RouterId) (f : WorldFault) → Lends w r (Err f) → Some difference.Stopped ≡ difference_at w mine r
difference_of_stopped w mine r f lends = ap (difference_of mine) (sym (not_at w r f lends))

-- ---- at one vertex

router_of : RouterId → Vertex → RouterId
router_of r (Router q) = q
router_of r (Network n) = r

same_router : (v : Vertex) (r q : RouterId) → v ≡ Router r → v ≡ Router q → q ≡ r
unfolding router_of
same_router v r q is_r is_q = ap (router_of r) (sym is_q ∙ is_r)

pub not_router : (w : World) (a : RouterId) (mine : List (List ℕ)) (v : Vertex) → ((q : RouterId) → v ≡ Router q → ⊥) → IsOfVertex w a mine v None
not_router w a mine v none = none_differs_there (λ q is listed. absurd (none q is))

pub not_listed : (w : World) (a : RouterId) (mine : List (List ℕ)) (v : Vertex) (r : RouterId) → v ≡ Router r → (IsListed (advertisements_of mine) r → ⊥) → IsOfVertex w a mine v None
not_listed w a mine v r is_r none =
    none_differs_there (λ q is_q listed. absurd (none (subst (IsListed (advertisements_of mine)) (same_router v r q is_r is_q) listed)))

pub same_there : (w : World) (a : RouterId) (mine : List (List ℕ)) (v : Vertex) (r : RouterId) → v ≡ Router r → None ≡ difference_at w mine r → IsOfVertex w a mine v None
same_there w a mine v r is_r none =
    none_differs_there (λ q is_q listed. subst (λ (p : RouterId). difference_at w mine p ≡ None) (sym (same_router v r q is_r is_q)) (sym none))

pub differs_there : (w : World) (a : RouterId) (mine : List (List ℕ)) (v : Vertex) (r : RouterId) (d : Difference) → v ≡ Router r → IsListed (advertisements_of mine) r
    → Some d ≡ difference_at w mine r → IsOfVertex w a mine v (Some (record { from = a; router = r; difference = d }))
differs_there w a mine v r d is_r listed some = it_differs r d is_r listed (sym some)

pub first_if_ok : {E : Type 0} (w : World) (a : RouterId) (mine lsas : List (List ℕ)) (edges : List Edge) (settled : List Settled) (Starts : Vertex → Start → Type 0)
    (result : Result (Option Disagreement) E) → mine ≡ lsas → IsEdgesOf (advertisements_of mine) edges → IsTree (Contains edges) (Router a) (AtIn settled) Starts
    → IsNonDecreasingBy (λ s. vertex_code s.vertex) settled → IfOk result (IsFirstOfVertices w a mine settled) → IfOk result (IsFirstToDiffer w a lsas)
first_if_ok w a mine lsas edges settled Starts (Ok found) same are tree order first = first_of_router w a mine lsas edges settled Starts found same are tree order first
first_if_ok w a mine lsas edges settled Starts (Err e) same are tree order first = tt
