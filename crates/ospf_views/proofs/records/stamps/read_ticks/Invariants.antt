use Rattle.std.proofs.Common.{length, ◌-◌}
use Rattle.ospf_views.specs.RecordFiles.Stamps.{AreTicksRead}
use Rattle.ospf_views.proofs.records.stamps.read_ticks.Given as goal

abbrev pub invariant-loop-next : goal.invariant-loop-next
invariant-loop-next l = AreTicksRead l.fn.ticks l.fn.number l.fn.read l.fn.clocks → AreTicksRead l.ticks l.number l.next l.clocks

abbrev pub decreases-loop-next : goal.decreases-loop-next
decreases-loop-next l = length l.ticks - l.next
