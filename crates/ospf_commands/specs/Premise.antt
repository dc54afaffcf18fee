-- The premise of the headline's second half: each router that a router reaches in what it lists
-- runs, and lists the same instances. If it does not hold, which router is the first that differs.
use Rattle.std.specs.Prelude.{◌≡◌, ◌<◌, ◌++◌, List, ◌∷◌, ℕ, Option, None, Some, Result, Ok, Err, false}
use Rattle.std.specs.List.{AllByRecursion}
use Rattle.ospf_base.specs.declared.event.event.WorldFault.{WorldFault}
use Rattle.ospf_base.specs.declared.event.event.WorldFault.TheVariants as fault
use Rattle.ospf_base.specs.declared.ids.RouterId.{RouterId}
use Rattle.ospf_graph.specs.Advertisements.{IsListed}
use Rattle.ospf_graph.specs.EdgeLists.Listed.{advertisements_of}
use Rattle.ospf_graph.specs.Walk.{IsReachedFrom}
use Rattle.ospf_graph.specs.declared.graph.Vertex.{Vertex}
use Rattle.ospf_graph.specs.declared.graph.Vertex.TheVariants.{Router}
use Rattle.ospf_graph.specs.declared.paths.Settled.{Settled}
use Rattle.ospf_world.specs.Listings.{ListTheSame}
use Rattle.ospf_world.specs.Walks.{AllReachedAgree}
use Rattle.ospf_world.specs.World.{Running, World, listing, member, of_member, router_at, unless_stopped}
use Rattle.ospf_world.specs.Worlds.{world_of}
use Rattle.ospf_world.specs.Worlds.{SlotValue, WorldValue}
use Rattle.ospf_journal.specs.Differences.{difference_between}
use Rattle.ospf_journal.specs.declared.differs.Difference.{Difference}
use Rattle.ospf_journal.specs.declared.differs.Difference.TheVariants as difference
use Rattle.ospf_views.specs.declared.disagreement.Disagreement.{Disagreement}

-- ---- what two routers list

-- of a router that may not run
abbrev pub difference_of : List (List ℕ) → Option Running → Option Difference
difference_of mine None = Some difference.Stopped
difference_of mine (Some y) = difference_between mine (listing y)

-- how a router differs from one that lists these LSAs, if it does
abbrev pub difference_at : World → List (List ℕ) → RouterId → Option Difference
difference_at w mine q = difference_of mine (router_at w q)

-- ---- which router is the first that differs

-- the router runs, and lists the instances of these LSAs
abbrev pub AgreesWith : World → List (List ℕ) → RouterId → Type 0
AgreesWith w mine r = (y : Running) × (router_at w r ≡ Some y) × ListTheSame mine (listing y)

-- by these LSAs router a reaches router r, and r's own is one of them
abbrev pub IsListedAndReached : RouterId → List (List ℕ) → RouterId → Type 0
IsListedAndReached a mine r =
    IsListed (advertisements_of mine) r × IsReachedFrom (advertisements_of mine) a r

-- of the routers that router a reaches by its LSAs, in the order of Router IDs, the first that does
-- not run or lists other LSAs; none if all run and list the same
pub data IsFirstToDiffer (w : World) (a : RouterId) (mine : List (List ℕ)) : Option Disagreement
    → Type 0 where
  all_agree : ((r : RouterId) → IsListedAndReached a mine r → AgreesWith w mine r)
      → IsFirstToDiffer w a mine None
  one_differs : (q : RouterId) (d : Difference) → IsListedAndReached a mine q
      → difference_at w mine q ≡ Some d
      → ((r : RouterId) → r.0 < q.0 → IsListedAndReached a mine r → AgreesWith w mine r)
      → IsFirstToDiffer w a mine (Some (record { from = a; router = q; difference = d }))

-- at a vertex: no router is there, or its LSA is not listed, or it agrees; or it differs
pub data IsOfVertex (w : World) (a : RouterId) (mine : List (List ℕ)) (v : Vertex)
    : Option Disagreement → Type 0 where
  none_differs_there : ((q : RouterId) → v ≡ Router q → IsListed (advertisements_of mine) q
      → difference_at w mine q ≡ None) → IsOfVertex w a mine v None
  it_differs : (q : RouterId) (d : Difference) → v ≡ Router q
      → IsListed (advertisements_of mine) q → difference_at w mine q ≡ Some d
      → IsOfVertex w a mine v (Some (record { from = a; router = q; difference = d }))

-- of the routers at these vertices, the first that is listed and differs
pub data IsFirstOfVertices (w : World) (a : RouterId) (mine : List (List ℕ))
    (settled : List Settled) : Option Disagreement → Type 0 where
  none_differs : AllByRecursion (λ s. IsOfVertex w a mine s.vertex None) settled
      → IsFirstOfVertices w a mine settled None
  first_differs : (before after : List Settled) (s : Settled) (d : Disagreement)
      → settled ≡ before ++ s ∷ after
      → AllByRecursion (λ s. IsOfVertex w a mine s.vertex None) before
      → IsOfVertex w a mine s.vertex (Some d) → IsFirstOfVertices w a mine settled (Some d)

-- what is found for a running router; or it does not run, or there is none; or memory runs out
pub data IsPremiseOf (w : World) (a : RouterId) (result : Result (Option Disagreement) WorldFault)
    : Type 0 where
  premise_is_found : (x : Running) (found : Option Disagreement) → router_at w a ≡ Some x
      → IsFirstToDiffer w a (listing x) found → result ≡ Ok found → IsPremiseOf w a result
  premise_of_none : (f : WorldFault) → of_member unless_stopped (member w a) ≡ Some f
      → result ≡ Err f → IsPremiseOf w a result
  no_room_for_premise : result ≡ Err (fault.Memory false) → IsPremiseOf w a result

-- if the router of this slot runs, the premise holds for it
abbrev pub HoldsFor : World → SlotValue → Type 0
HoldsFor w s =
    (x : Running) → router_at w s.config.router_id ≡ Some x
    → AllReachedAgree w s.config.router_id x

-- the first of these routers for which it does not hold, and why; none if it holds for all that run
pub data IsPremiseOfSlots (w : World) (slots : List SlotValue) : Option Disagreement → Type 0 where
  holds_for_all : AllByRecursion (HoldsFor w) slots → IsPremiseOfSlots w slots None
  fails_for_one : (before after : List SlotValue) (s : SlotValue) (x : Running) (d : Disagreement)
      → slots ≡ before ++ s ∷ after → AllByRecursion (HoldsFor w) before
      → router_at w s.config.router_id ≡ Some x
      → IsFirstToDiffer w s.config.router_id (listing x) (Some d)
      → IsPremiseOfSlots w slots (Some d)

-- what is found for a router, or for all that run if none is given
abbrev pub IsPremise : Option RouterId → WorldValue → Result (Option Disagreement) WorldFault
    → Type 0
IsPremise (Some r) w result = IsPremiseOf (world_of w) r result
IsPremise None w (Ok found) = IsPremiseOfSlots (world_of w) w.slots found
IsPremise None w (Err f) = f ≡ fault.Memory false
