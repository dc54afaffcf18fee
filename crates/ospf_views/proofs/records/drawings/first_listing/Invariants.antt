use Rattle.std.proofs.Common.{◌≡◌, drop}
use Rattle.ospf_views.specs.RecordFiles.Drawings.{first_listing}
use Rattle.ospf_views.proofs.records.drawings.first_listing.Given as goal

abbrev pub invariant-loop-slot : goal.invariant-loop-slot
invariant-loop-slot l = first_listing l.slots ≡ first_listing (drop l.slot-index l.slots)
