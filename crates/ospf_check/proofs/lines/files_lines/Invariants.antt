use Rattle.std.proofs.Common.{string_bytes, take}
use Rattle.ospf_check.specs.Lines.{AreFileLines}
use Rattle.ospf_check.proofs.lines.files_lines.Given as goal

-- the lines of the files so far
abbrev pub invariant-loop-file : goal.invariant-loop-file
invariant-loop-file l = AreFileLines (take l.file-index l.files) (string_bytes l.text)
