use Rattle.std.proofs.Common.{refl, arith}
use Rattle.ospf_views.proofs.RecordFiles.CaptureFacts.{none_counted}
use Rattle.ospf_views.proofs.records.recorder.Recorder.new.Goals as goal

pub returns : goal.returns
returns c = record {
  to = record {
    within = omega arith;
    clocks = record { within = omega arith; came = tt; counts = none_counted c.new.result c.new.ensures.empty };
    stamped = none_counted c.new-2.result c.new-2.ensures.empty;
  };
  all = refl;
}
