-- Lists of vertices to which more are put.
use Rattle.std.proofs.Common.{◌++◌, ◌∙◌, List, [], ap, append_assoc, append-nil, subst, sym}
use Rattle.std.specs.List.{Contains}
use Rattle.std.proofs.lemmas.List.Elements.{Contains-append_left}
use Rattle.ospf_graph.specs.declared.graph.Vertex.{Vertex}
use Rattle.ospf_spf.specs.IncrementalSpf.Growth.{Extends, HoldsAll}

-- none are put there
pub extends_none : (old : List Vertex) → Extends old old
extends_none old = ([], sym (append-nil old))

-- some, and then more
pub extends_then : (old mid new : List Vertex) → Extends old mid → Extends mid new → Extends old new
extends_then old mid new f g = (f.0 ++ g.0, g.1 ∙ (ap (λ l. l ++ g.0) f.1 ∙ append_assoc old f.0 g.0))

-- what was there stays
pub extends_holds : (old new : List Vertex) → Extends old new → HoldsAll old new
extends_holds old new e v m = subst (λ l. Contains l v) (sym e.1) (Contains-append_left old e.0 v m)
