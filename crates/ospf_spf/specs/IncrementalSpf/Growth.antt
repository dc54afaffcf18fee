-- Shortest paths that grow while edges come: all of a tree but what edges that wait owe.
use Rattle.std.specs.Prelude.{◌≡◌, ◌+◌, ◌<◌, ◌≤◌, ◌⊎◌, ◌≢◌, ◌^◌, ◌++◌, ℕ, List, Option, Some, Bool, Result, All, Contains, IfOk, IsTrue, IsFalse, nat_eq}
use Rattle.std.specs.HashMap.{get}
use Rattle.ospf_graph.specs.declared.graph.Edge.{Edge}
use Rattle.ospf_graph.specs.declared.graph.Vertex.{Vertex}
use Rattle.ospf_graph.specs.declared.graph.Start.{Start}
use Rattle.ospf_graph.specs.declared.graph.Start.TheVariants.{Here}
use Rattle.ospf_graph.specs.declared.candidates.SpfCandidate.{SpfCandidate}
use Rattle.ospf_spf.specs.declared.incremental.grow.FoundPaths.{FoundPaths}
use Rattle.ospf_graph.specs.declared.reached.Reached.{Reached}
use Rattle.ospf_graph.specs.Graph.{IsPath, path_cost}
use Rattle.ospf_graph.specs.Reached.{ArePlaces, settled_of, starts_of}
use Rattle.ospf_graph.specs.Search.{AtIn, StartsIn, vertex_code}
use Rattle.ospf_graph.specs.Tree.{extend, start_from}
use Rattle.ospf_graph.specs.Waiting.{Waiting}

-- the edge's end is reached nearer than the edge leads, or as near, with
-- all starts that the edge brings
abbrev pub IsRelaxed : (Vertex → ℕ → Type 0) → (Vertex → Start → Type 0) → Edge → ℕ → Type 0
IsRelaxed At Starts e d =
    ((near : ℕ) × (near < d + e.cost) × At e.to near)
    ⊎ (At e.to (d + e.cost)
    × ((x : Start) → Starts e.from x → Starts e.to (extend x e.to e.link_data)))

-- the edge waits, or owes nothing
abbrev pub IsOwed : (Vertex → ℕ → Type 0) → (Vertex → Start → Type 0) → (Edge → Type 0) → Edge → ℕ
    → Type 0
IsOwed At Starts Waits e d = Waits e ⊎ IsRelaxed At Starts e d

-- paths over edges, of which those that are seen owe nothing but while they wait: where all are
-- seen, and none waits, it is a tree
pub record IsGrowing (is_edge is_seen : Edge → Type 0) (root : Vertex) (At : Vertex → ℕ → Type 0)
    (Starts : Vertex → Start → Type 0) (Waits : Edge → Type 0) : Type 0 where
  pub one : (v : Vertex) (d k : ℕ) → At v d → At v k → d ≡ k
  pub root_at : At root 0
  pub root_start : Starts root Here
  pub path_of : (v : Vertex) (d : ℕ) → At v d
      → (path : List Edge) × IsPath is_edge root path v × (path_cost path ≡ d)
  pub path_with : (v : Vertex) (x : Start) → Starts v x →
      (path : List Edge) × IsPath is_edge root path v × At v (path_cost path)
      × (start_from Here path ≡ x)
  pub within : (e : Edge) → is_seen e → is_edge e
  pub waiting : (e : Edge) → Waits e → is_edge e
  pub owed : (e : Edge) (d : ℕ) → is_seen e → At e.from d → IsOwed At Starts Waits e d

-- the edge's end is as near as the edge leads from d, and no nearer than before, with its starts as
-- far as they are of that distance and those that the edge brings; all else is as before
pub record Improves (e : Edge) (d : ℕ) (At At' : Vertex → ℕ → Type 0)
    (Starts Starts' : Vertex → Start → Type 0) : Type 0 where
  pub from : At e.from d
  pub farther : (j : ℕ) → At e.to j → d + e.cost ≤ j
  pub end : At' e.to (d + e.cost)
  pub end_only : (j : ℕ) → At' e.to j → j ≡ d + e.cost
  pub at_in : (v : Vertex) (j : ℕ) → v ≢ e.to → At v j → At' v j
  pub at_out : (v : Vertex) (j : ℕ) → v ≢ e.to → At' v j → At v j
  pub starts_in : (v : Vertex) (x : Start) → v ≢ e.to → Starts v x → Starts' v x
  pub starts_out : (v : Vertex) (x : Start) → v ≢ e.to → Starts' v x → Starts v x
  pub kept : (x : Start) → At e.to (d + e.cost) → Starts e.to x → Starts' e.to x
  pub brought : (x : Start) → Starts e.from x → Starts' e.to (extend x e.to e.link_data)
  pub only : (x : Start) → Starts' e.to x →
      (At e.to (d + e.cost) × Starts e.to x)
      ⊎ ((y : Start) × Starts e.from y × (x ≡ extend y e.to e.link_data))

-- some candidate waits with the edge
abbrev pub HasEdge : List SpfCandidate → Edge → Type 0
HasEdge candidates e = (k : ℕ) × Contains candidates (record { edge = e; distance = k })

-- each of these edges waits now, or owes nothing
pub record Offers (some : List Edge) (At : Vertex → ℕ → Type 0) (Starts : Vertex → Start → Type 0)
    (old new : List SpfCandidate) : Type 0 where
  pub kept : (e : Edge) → HasEdge old e → HasEdge new e
  pub only : (e : Edge) → HasEdge new e → HasEdge old e ⊎ Contains some e
  pub owed : (e : Edge) (d : ℕ) → Contains some e → At e.from d → IsOwed At Starts (HasEdge new) e d

-- the vertex is at this distance now, with no start; all else is as before
pub record IsResetAt (v : Vertex) (way : ℕ) (At At' : Vertex → ℕ → Type 0)
    (Starts Starts' : Vertex → Start → Type 0) : Type 0 where
  pub end : At' v way
  pub end_only : (j : ℕ) → At' v j → j ≡ way
  pub at_in : (w : Vertex) (j : ℕ) → w ≢ v → At w j → At' w j
  pub at_out : (w : Vertex) (j : ℕ) → w ≢ v → At' w j → At w j
  pub starts_in : (w : Vertex) (x : Start) → w ≢ v → Starts w x → Starts' w x
  pub starts_out : (w : Vertex) (x : Start) → w ≢ v → Starts' w x → Starts w x
  pub none : (x : Start) → Starts' v x → ⊥

-- a vertex is reached at this distance
abbrev pub IsAt : List Reached → Vertex → ℕ → Type 0
IsAt rs = AtIn (settled_of rs)

-- a vertex is reached with this start
abbrev pub HasStart : List Reached → Vertex → Start → Type 0
HasStart rs = StartsIn (starts_of rs)

-- each distance is small
abbrev pub AreNear : List Reached → Type 0
AreNear rs = All (λ x. x.distance < 2 ^ 63) (settled_of rs)

-- the edge waits no more, and what it owed is paid: where these edges are seen, they owe nothing
-- but while they wait now, as before
abbrev pub PaysFor : List Edge → Edge → List Reached → List Reached → List SpfCandidate
    → List SpfCandidate → Type 0
PaysFor edges edge old new waited waits =
    (all : List Edge) (root : Vertex) (before : List SpfCandidate)
    → IsGrowing (Contains all) (Contains edges) root (IsAt old) (HasStart old) (HasEdge before)
    → HasEdge before edge
    → ((f : Edge) → HasEdge before f → HasEdge waited f ⊎ (f ≡ edge))
    → ((f : Edge) → HasEdge waited f → HasEdge before f)
    → IsGrowing (Contains all) (Contains edges) root (IsAt new) (HasStart new) (HasEdge waits)

-- what is not among these vertices is as before
pub record Spares (changed : List Vertex) (old new : List Reached) : Type 0 where
  pub at_in : (v : Vertex) (d : ℕ) → (Contains changed v → ⊥) → IsAt old v d → IsAt new v d
  pub at_out : (v : Vertex) (d : ℕ) → (Contains changed v → ⊥) → IsAt new v d → IsAt old v d
  pub starts_in : (v : Vertex) (x : Start) → (Contains changed v → ⊥) → HasStart old v x
      → HasStart new v x
  pub starts_out : (v : Vertex) (x : Start) → (Contains changed v → ⊥) → HasStart new v x
      → HasStart old v x

-- where the answer is yes, P holds
abbrev pub OnOkTrue : {E : Type 0} → Result Bool E → Type 0 → Type 0
OnOkTrue result P = IfOk result (λ b. IsTrue b → P)

-- where it is no, P holds
abbrev pub OnOkFalse : {E : Type 0} → Result Bool E → Type 0 → Type 0
OnOkFalse result P = IfOk result (λ b. IsFalse b → P)

-- each vertex that is found has its place
abbrev pub HasPlaces : FoundPaths → Type 0
HasPlaces f = ArePlaces (get nat_eq f.places) f.reached.items

-- the place of the vertex, if it is found
abbrev pub found_place : FoundPaths → Vertex → Option ℕ
found_place f v = get nat_eq f.places (vertex_code v)

-- what the edge brings to its end, from this distance
abbrev pub ImprovesIn : Edge → ℕ → FoundPaths → FoundPaths → Type 0
ImprovesIn e d old new =
    Improves e d (IsAt old.reached.items) (IsAt new.reached.items) (HasStart old.reached.items)
    (HasStart new.reached.items)

-- the edge owes nothing to what is found
abbrev pub IsRelaxedIn : FoundPaths → Edge → ℕ → Type 0
IsRelaxedIn f e d = IsRelaxed (IsAt f.reached.items) (HasStart f.reached.items) e d

-- the vertex is found at this distance now, with no start
abbrev pub IsResetIn : Vertex → ℕ → FoundPaths → FoundPaths → Type 0
IsResetIn v way old new =
    IsResetAt v way (IsAt old.reached.items) (IsAt new.reached.items) (HasStart old.reached.items)
    (HasStart new.reached.items)

-- the vertex at this place is
abbrev pub ResetsAt : ℕ → ℕ → FoundPaths → FoundPaths → Type 0
ResetsAt place way old new = (v : Vertex) → found_place old v ≡ Some place → IsResetIn v way old new

-- each of these edges waits now, or owes nothing to what is found
abbrev pub OffersIn : FoundPaths → List Edge → Waiting → Waiting → Type 0
OffersIn f some old new =
    Offers some (IsAt f.reached.items) (HasStart f.reached.items) old.list new.list

-- each of these starts, one edge further, is there
abbrev pub AreThere : Edge → List Start → List Start → Type 0
AreThere e starts there = All (λ x. Contains there (extend x e.to e.link_data)) starts

-- the edge brings no start that its end has not
abbrev pub BringsNothing : FoundPaths → Edge → Type 0
BringsNothing f e =
    (x : Start) → HasStart f.reached.items e.from x
    → HasStart f.reached.items e.to (extend x e.to e.link_data)

-- the edge waits no more, and what it owed is paid in what is found
abbrev pub Pays : List Edge → Edge → FoundPaths → FoundPaths → Waiting → Waiting → Type 0
Pays edges e old new waited waits =
    PaysFor edges e old.reached.items new.reached.items waited.list waits.list

-- what is found away from these vertices is as before
abbrev pub SparesIn : List Vertex → FoundPaths → FoundPaths → Type 0
SparesIn changed old new = Spares changed old.reached.items new.reached.items

-- no edge waits
abbrev pub NoneWaits : Edge → Type 0
NoneWaits e = ⊥

-- where these edges are seen, and owed nothing but while they waited, they owe nothing
abbrev pub PaysAll : List Edge → Waiting → FoundPaths → FoundPaths → Type 0
PaysAll edges waited old new =
    (all : List Edge) (root : Vertex)
    → IsGrowing (Contains all) (Contains edges) root (IsAt old.reached.items)
    (HasStart old.reached.items) (HasEdge waited.list)
    → IsGrowing (Contains all) (Contains edges) root (IsAt new.reached.items)
    (HasStart new.reached.items) NoneWaits

-- what is among these is among those
abbrev pub HoldsAll : List Vertex → List Vertex → Type 0
HoldsAll some all = (v : Vertex) → Contains some v → Contains all v

-- the new ones are the old ones, perhaps followed by more
abbrev pub Extends : List Vertex → List Vertex → Type 0
Extends old new = (more : List Vertex) × (new ≡ old ++ more)
