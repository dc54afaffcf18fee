use Rattle.std.proofs.Common.{take}
use Rattle.std.specs.Prelude.{flat_map}
use Rattle.std.specs.Io.KnownBytes.{Appends}
use Rattle.ospf_views.specs.Shown.{listed_line}
use Rattle.ospf_views.proofs.views.write_listed.Given as goal

-- the LSAs so far are written
abbrev pub invariant-loop-lsa : goal.invariant-loop-lsa
invariant-loop-lsa g l = Appends (g.O.Write.contents l.fn.out) (g.O.Write.contents l.out) (flat_map listed_line (take l.lsa-index l.lsas))
