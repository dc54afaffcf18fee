use Rattle.std.proofs.Common.{◌≡◌, take}
use Rattle.ospf_graph.specs.EdgeLists.Listed.{advertisements_of}
use Rattle.ospf_change.specs.Edit.Change.{AreChangedBy, HasChangedLargeBy, changed_by}
use Rattle.ospf_change.proofs.edit.applied.apply.Given as goal

-- what the changes so far have made
abbrev pub invariant-loop-change : goal.invariant-loop-change
invariant-loop-change l = record {
  changed_area : advertisements_of l.left ≡ changed_by (take l.change-index l.changes) (advertisements_of l.fn.listing);
  bytes : AreChangedBy (take l.change-index l.changes) l.fn.listing l.left;
  small : HasChangedLargeBy (take l.change-index l.changes) (advertisements_of l.fn.listing) → ⊥;
}
