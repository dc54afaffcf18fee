use Rattle.std.proofs.Common.{take}
use Rattle.std.specs.Fmt.{HasWritten, IsPlainFormatter}
use Rattle.std.specs.List.{flat_map}
use Rattle.ospf_views.specs.Waits.{retransmission_line}
use Rattle.ospf_views.proofs.waits.write_instances.Given as goal

-- the instances so far are named
abbrev pub invariant-loop-entry : goal.invariant-loop-entry
invariant-loop-entry g l =
    IsPlainFormatter l.fn.f → HasWritten g.W.Write.write_str_gives l.fn.f (flat_map retransmission_line (take l.entry-index l.listed)) l.f
