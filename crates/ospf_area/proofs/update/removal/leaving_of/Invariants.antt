use Rattle.std.proofs.Common.{◌≡◌, filter, take}
use Rattle.ospf_area.proofs.Updates.RemovalLemmas.{leaves}
use Rattle.ospf_area.proofs.update.removal.leaving_of.Given as goal

abbrev pub invariant-loop-key : goal.invariant-loop-key
invariant-loop-key l = l.keys.items ≡ filter (leaves l.links l.database) (take l.key-index l.key-items)
