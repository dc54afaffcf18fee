use Rattle.std.proofs.Common.{◌≡◌, ◌++◌, map, take, drop}
use Rattle.ospf_area.proofs.Updates.Words.{reset_one}
use Rattle.ospf_area.proofs.update.removal.reset_all.Given as goal

abbrev pub invariant-loop-numbering : goal.invariant-loop-numbering
invariant-loop-numbering l = l.all ≡ map (reset_one l.key) (take l.numbering-index l.initial.all) ++ drop l.numbering-index l.initial.all
