use Rattle.std.proofs.Common.{◌≡◌, true}
use Rattle.ospf_area.specs.Outputs.{OutputsValue}
use Rattle.ospf_area.specs.State.{AreaValue}
use Rattle.ospf_area.specs.Updates.Updates.{IsTurned}
use Rattle.ospf_area.proofs.Updates.Words.{TakesSlices}
use Rattle.ospf_area.proofs.update.updates.on_update.Given as goal

abbrev pub invariant-loop-bytes : goal.invariant-loop-bytes
invariant-loop-bytes l =
    (goal.iterator-loop-bytes).can_next l.bytes-iterator ×
    (goal.iterator-loop-bytes).is_finite l.bytes-iterator ×
    (l.is_turned ≡ true → IsTurned l.area) ×
    ((o : OutputsValue) (s : AreaValue) → TakesSlices l.from l.bytes-iterator l.area l.out o s → TakesSlices l.from l.fn.lsas l.fn.area l.fn.out o s)
