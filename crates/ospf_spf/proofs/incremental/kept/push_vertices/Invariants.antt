use Rattle.std.proofs.Common.{◌≡◌, ◌++◌, take}
use Rattle.ospf_spf.specs.IncrementalSpf.Kept.{vertices_of}
use Rattle.ospf_spf.proofs.incremental.kept.push_vertices.Given as goal

abbrev pub invariant-loop-one : goal.invariant-loop-one
invariant-loop-one l = l.vertices.items ≡ l.initial.vertices.items ++ vertices_of (take l.one-index l.reached)
