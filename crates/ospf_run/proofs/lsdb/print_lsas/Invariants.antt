use Rattle.std.proofs.Common.{take}
use Rattle.std.specs.Prelude.{flat_map}
use Rattle.std.specs.Io.KnownBytes.{Appends}
use Rattle.ospf_run.specs.Printed.{lsdb_line}
use Rattle.ospf_run.proofs.lsdb.print_lsas.Given as goal

-- the LSAs so far are printed
abbrev pub invariant-loop-lsa : goal.invariant-loop-lsa
invariant-loop-lsa g l = Appends (g.O.Write.contents l.fn.out) (g.O.Write.contents l.out) (flat_map lsdb_line (take l.lsa-index l.lsas))
