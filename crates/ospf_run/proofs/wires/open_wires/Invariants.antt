use Rattle.std.proofs.Common.{◌≡◌, All, length}
use Rattle.ospf_run.specs.Wires.{IsFresh}
use Rattle.ospf_run.specs.Runs.{span_of}
use Rattle.ospf_run.proofs.wires.open_wires.Given as goal

-- the routers so far have wires that have not failed
abbrev pub invariant-loop-place : goal.invariant-loop-place
invariant-loop-place g l = record {
  count : length l.wires.items ≡ l.place;
  fresh : All (IsFresh (span_of l.settings)) l.wires.items;
}
