use Rattle.std.proofs.Common.{◌≡◌, ◌++◌, map, take, drop}
use Rattle.ospf_originate.proofs.Words.{issued_one}
use Rattle.ospf_originate.proofs.numbers.note_issue.Given as goal

abbrev pub invariant-loop-numbering : goal.invariant-loop-numbering
invariant-loop-numbering l = l.all ≡ map (issued_one l.key l.tick) (take l.numbering-index l.initial.all) ++ drop l.numbering-index l.initial.all
