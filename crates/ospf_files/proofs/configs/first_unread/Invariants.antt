use Rattle.std.proofs.Common.{take}
use Rattle.ospf_files.specs.Listed.{AreFilesRead}
use Rattle.ospf_files.proofs.configs.first_unread.Given as goal

-- the files so far could be read
abbrev pub invariant-loop-file : goal.invariant-loop-file
invariant-loop-file l = AreFilesRead (take l.file-index l.files)
