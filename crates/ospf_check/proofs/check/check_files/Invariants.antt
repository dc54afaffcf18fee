use Rattle.std.proofs.Common.{take}
use Rattle.ospf_files.specs.Streams.{written_on}
use Rattle.ospf_check.specs.Checked.{IsWritten}
use Rattle.ospf_check.proofs.check.check_files.Given as goal
use Rattle.ospf_check.proofs.Written.{AreAllKept}

-- the files so far are told, and their configurations are kept
abbrev pub invariant-loop-file : goal.invariant-loop-file
invariant-loop-file g l =
    IsWritten l.how (take l.file-index l.files) l.all (written_on (g.O.Write.contents l.fn.out) (g.E.Write.contents l.fn.err)) (written_on (g.O.Write.contents l.out) (g.E.Write.contents l.err))
    × AreAllKept (take l.file-index l.files) l.all l.configs.items
