use Rattle.std.proofs.Common.{length, ◌-◌}
use Rattle.ospf_views.specs.RecordFiles.Recorder.{AddsTo, IsRecordedTo, StillBegins}
use Rattle.ospf_views.proofs.records.recorder.Recorder.add_all.Given as goal

abbrev pub invariant-loop-self : goal.invariant-loop-self
invariant-loop-self l = record {
  behind : StillBegins l.fn.out.items l.out.items;
  added : IsRecordedTo l.fn.ticks l.fn.datagrams l.fn.self → AddsTo l.self.datagrams l.ticks l.datagrams l.fn.self l.fn.out.items l.self l.out.items;
}

abbrev pub decreases-loop-self : goal.decreases-loop-self
decreases-loop-self l = length l.datagrams - l.self.datagrams
