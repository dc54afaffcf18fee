use Rattle.std.proofs.Common.{take}
use Rattle.ospf_area.specs.Acting.{InTurn}
use Rattle.ospf_area.specs.Updates.Aging.{SendsCopy}
use Rattle.ospf_area.proofs.update.aging.send_copies.Given as goal

abbrev pub invariant-loop-key : goal.invariant-loop-key
invariant-loop-key l = InTurn SendsCopy (take l.key-index l.keys) l.initial.area l.initial.out l.out l.area
