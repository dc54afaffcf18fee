use Rattle.std.proofs.Common.{take}
use Rattle.ospf_spf.specs.IncrementalSpf.Growth.{HasPlaces}
use Rattle.ospf_spf.specs.IncrementalSpf.Shrinking.{LeavesIn}
use Rattle.ospf_spf.proofs.incremental.shrink.leave.Given as goal

abbrev pub invariant-loop-vertex : goal.invariant-loop-vertex
invariant-loop-vertex l =
    record {
      places : HasPlaces l.found;
      left : LeavesIn (take l.vertex-index l.gone) l.initial.found l.found;
    }
