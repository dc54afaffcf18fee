use Rattle.std.proofs.Common.{take}
use Rattle.std.specs.List.{AllZip}
use Rattle.ospf_graph.specs.EdgeLists.Listed.{advertisements_of}
use Rattle.ospf_change.specs.Edit.Words.{IsWordFor}
use Rattle.ospf_change.proofs.edit.words.named_among.Given as goal

-- those that are named so far
abbrev pub invariant-loop-word : goal.invariant-loop-word
invariant-loop-word l = AllZip (IsWordFor (advertisements_of l.listing) l.single l.kind) (take l.word-index l.words) l.changes.items
