-- Trees that grow with their listings, and the tables that they serve (RFC 2328, section 16.1).
use Rattle.std.specs.Prelude.{◌≡◌, ◌↔◌, ◌⊎◌, ℕ, List, [], Contains, IsTrue}
use Rattle.ospf_base.specs.declared.ids.RouterId.{RouterId}
use Rattle.ospf_base.specs.declared.prefix.Prefix.{Prefix}
use Rattle.ospf_graph.specs.EdgeLists.Given.{AreEndsAt, IsEdgesOf, IsEndsOf}
use Rattle.ospf_graph.specs.EdgeLists.Listed.{advertisements_of}
use Rattle.ospf_graph.specs.EdgeLists.Near.{AreEdgesAt}
use Rattle.ospf_graph.specs.Advertisements.{Advertisement, IsListed}
use Rattle.ospf_graph.specs.Elsewhere.{AreSameBut}
use Rattle.ospf_spf.specs.IncrementalSpf.Kept.{IsKeptTree, KeptTree}
use Rattle.ospf_graph.specs.Routes.{IsEnd}
use Rattle.ospf_graph.specs.Search.{AtIn, AreFitEdges}
use Rattle.ospf_graph.specs.declared.graph.Edge.{Edge}
use Rattle.ospf_graph.specs.declared.graph.Vertex.{Vertex}
use Rattle.ospf_graph.specs.declared.graph.Vertex.TheVariants.{Router}
use Rattle.ospf_graph.specs.declared.paths.Settled.{Settled}
use Rattle.ospf_graph.specs.declared.edges.end.End.{End}
use Rattle.ospf_spf.specs.Spared.{AreEndsInOrder}
use Rattle.ospf_router.specs.declared.growing.Around.{Around}
use Rattle.ospf_router.specs.declared.growing.Turn.{Turn}

-- a tree that grows: its root, and the LSAs of its listing
pub record GrowingValue : Type 0 where
  pub root : RouterId
  pub listing : List (List ℕ)

-- the paths are stored over the edges of the listing, with its ends in order
pub record IsGrownOver (root : RouterId) (lsas : List (List ℕ)) (paths : KeptTree) (ends : List End)
    : Type 0 where
  pub root_is : paths.root ≡ Router root
  pub edges_are : IsEdgesOf (advertisements_of lsas) paths.edges
  pub tree : IsKeptTree paths
  pub ends_are : IsEndsOf (advertisements_of lsas) ends
  pub ends_in_order : AreEndsInOrder ends

-- what a listing says of a vertex: the edges that touch it, the ends at it,
-- and whether the root is listed
pub record IsAround (adverts : List Advertisement) (v : Vertex) (root : RouterId) (a : Around)
    : Type 0 where
  pub edges : AreEdgesAt adverts v a.edges.items
  pub fit : AreFitEdges a.edges.items
  pub ends : AreEndsAt adverts v a.ends.items
  pub root_is : IsTrue a.has_root ↔ IsListed adverts root

-- the paths and the ends are those of a listing that differs from the new one at most in the LSAs
-- of a vertex, with what both say of it
pub record IsTurn (old new : List (List ℕ)) (root : RouterId) (paths : KeptTree) (ends : List End)
    (turn : Turn) : Type 0 where
  pub over : IsGrownOver root old paths ends
  pub same : AreSameBut turn.vertex (advertisements_of old) (advertisements_of new)
  pub before_is : IsAround (advertisements_of old) turn.vertex root turn.before
  pub after_is : IsAround (advertisements_of new) turn.vertex root turn.after

-- some of the ends is of the prefix
abbrev pub HasEndOf : List End → Prefix → Type 0
HasEndOf ends p = (e : End) × Contains ends e × (e.prefix ≡ p)

-- the vertex has the same ends as before, or none of the prefix
abbrev pub HasSameEnds : Turn → Prefix → Type 0
HasSameEnds turn p =
    (turn.before.ends.items ≡ turn.after.ends.items)
    ⊎ ((HasEndOf turn.before.ends.items p → ⊥) × (HasEndOf turn.after.ends.items p → ⊥))

-- nothing changed, and the vertex is not reached; or the vertex has the same ends or none of the
-- prefix, and no vertex that changed has one
pub data IsUntouched (adverts : List Advertisement) (changed : List Vertex) (settled : List Settled)
    (turn : Turn) (p : Prefix) : Type 0 where
  Unreached : changed ≡ [] → ((d : ℕ) → AtIn settled turn.vertex d → ⊥)
      → IsUntouched adverts changed settled turn p
  Unchanged : HasSameEnds turn p
      → ((v : Vertex) (c : ℕ) → Contains changed v → IsEnd adverts p v c → ⊥)
      → IsUntouched adverts changed settled turn p

-- each of the edges before is gone or still there
pub record AreGone (before after gone : List Edge) : Type 0 where
  pub within : (e : Edge) → Contains gone e → Contains before e
  pub all : (e : Edge) → Contains before e → Contains gone e ⊎ Contains after e
