use Rattle.std.proofs.Common.{List, length}
use Rattle.ospf_script.specs.Words.{line_words}
use Rattle.ospf_script.proofs.Leading.{LeadsTo}
use Rattle.ospf_script.proofs.several.are_spelled.Given as goal

abbrev pub invariant-loop-word : goal.invariant-loop-word
invariant-loop-word g l = (found : List g.row.V.Denot) × LeadsTo g.V.Spelled.is_spelled (line_words l.text) (line_words l.rest) found

abbrev pub decreases-loop-word : goal.decreases-loop-word
decreases-loop-word g l = length l.rest
