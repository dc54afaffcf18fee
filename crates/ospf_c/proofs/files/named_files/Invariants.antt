use Rattle.std.proofs.Common.{◌≡◌, map, take}
use Rattle.ospf_c.specs.Files.{file_data, given_data}
use Rattle.ospf_c.proofs.files.named_files.Given as goal

-- those so far
abbrev pub invariant-loop-file : goal.invariant-loop-file
invariant-loop-file l = map file_data l.named.items ≡ map given_data (take l.file-index l.files)
