-- Ends of which those at a vertex are replaced, and prefixes that are collected.
use Rattle.std.specs.Prelude.{◌≡◌, ◌≢◌, ◌↔◌, ◌⊎◌, List, Contains}
use Rattle.ospf_base.specs.declared.prefix.Prefix.{Prefix}
use Rattle.ospf_graph.specs.declared.edges.end.End.{End}
use Rattle.ospf_graph.specs.declared.graph.Vertex.{Vertex}

-- the ends at a vertex are replaced, and nothing else changes
abbrev pub ReplacesEnds : Vertex → List End → List End → List End → Type 0
ReplacesEnds v at old new =
    (e : End) → Contains new e ↔ ((Contains old e × (e.vertex ≢ v)) ⊎ Contains at e)

-- all ends at a vertex are among these
abbrev pub HoldsEndsAt : Vertex → List End → List End → Type 0
HoldsEndsAt v were ends = (e : End) → Contains ends e → e.vertex ≡ v → Contains were e

-- the remaining ends are all those elsewhere, and at a vertex only some of these
pub record LeavesEnds (v : Vertex) (at old new : List End) : Type 0 where
  pub kept : (e : End) → Contains old e → e.vertex ≢ v → Contains new e
  pub only : (e : End) → Contains new e → Contains old e × ((e.vertex ≢ v) ⊎ Contains at e)

-- all of the one list are in the other
abbrev pub HoldsPrefixes : List Prefix → List Prefix → Type 0
HoldsPrefixes old new = (p : Prefix) → Contains old p → Contains new p
