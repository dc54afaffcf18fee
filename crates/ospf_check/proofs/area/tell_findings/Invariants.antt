use Rattle.std.proofs.Common.{take}
use Rattle.ospf_files.specs.Streams.{written_on}
use Rattle.ospf_check.specs.Area.{IsFindingsWritten}
use Rattle.ospf_check.proofs.area.tell_findings.Given as goal

-- the findings so far are told
abbrev pub invariant-loop-finding : goal.invariant-loop-finding
invariant-loop-finding g l =
    IsFindingsWritten l.explain l.files (take l.finding-index l.findings) l.sound
    (written_on (g.O.Write.contents l.fn.out) (g.E.Write.contents l.fn.err)) (written_on (g.O.Write.contents l.out) (g.E.Write.contents l.err))
