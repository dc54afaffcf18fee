use Rattle.std.proofs.Common.{take}
use Rattle.ospf_area.proofs.Updates.Words.{RemovesAll}
use Rattle.ospf_area.proofs.update.removal.remove_all.Given as goal

abbrev pub invariant-loop-key : goal.invariant-loop-key
invariant-loop-key l = RemovesAll (take l.key-index l.keys) l.initial.area l.initial.out l.out l.area
