use Rattle.std.proofs.Common.{◌≡◌, map}
use Rattle.ospf_files.proofs.disk.read_files.Given as goal

-- the files so far bear the names so far
abbrev pub invariant-loop-name : goal.invariant-loop-name
invariant-loop-name g l = map (λ file. file.name) l.files.items ≡ l.yielded
