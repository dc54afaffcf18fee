use Rattle.std.proofs.Common.{flat_map, take}
use Rattle.std.specs.Io.KnownBytes.{Appends}
use Rattle.ospf_notes.specs.LsaLines.{lsa_entry}
use Rattle.ospf_notes.proofs.lsa_log.write_all.Given as goal

abbrev pub invariant-loop-change : goal.invariant-loop-change
invariant-loop-change g l =
    Appends (g.F.Write.contents l.fn.file) (g.F.Write.contents l.file) (flat_map (lsa_entry l.is_json l.tick l.router) (take l.change-index l.changes))
