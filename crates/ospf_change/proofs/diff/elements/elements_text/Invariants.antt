use Rattle.std.proofs.Common.{◌≡◌, string_bytes, take}
use Rattle.ospf_change.specs.Diff.Elements.{elements_text}
use Rattle.ospf_change.proofs.diff.elements.elements_text.Given as goal

-- the lines of the elements so far
abbrev pub invariant-loop-element : goal.invariant-loop-element
invariant-loop-element l = string_bytes l.text ≡ elements_text l.sign (take l.element-index l.elements)
