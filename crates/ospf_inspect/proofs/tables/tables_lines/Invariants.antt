use Rattle.std.proofs.Common.{string_bytes, take}
use Rattle.ospf_graph.specs.EdgeLists.Listed.{advertisements_of}
use Rattle.ospf_inspect.specs.Lines.{AreLines}
use Rattle.ospf_inspect.specs.Tables.{SaysTableLineOf}
use Rattle.ospf_inspect.proofs.tables.tables_lines.Given as goal

-- the tables so far
abbrev pub invariant-loop-lsa : goal.invariant-loop-lsa
invariant-loop-lsa l = AreLines (SaysTableLineOf (advertisements_of l.listing)) (take l.lsa-index l.lsa-items) (string_bytes l.text)
