use Rattle.std.proofs.Common.{take}
use Rattle.ospf_change.specs.Diff.Elements.{AreElementsMissing}
use Rattle.ospf_change.proofs.diff.elements.missing_elements.Given as goal

-- what is missing of the elements so far
abbrev pub invariant-loop-element : goal.invariant-loop-element
invariant-loop-element l = AreElementsMissing (take l.element-index l.elements) l.others l.missing.items
