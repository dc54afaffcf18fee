use Rattle.std.proofs.Common.{length}
use Rattle.ospf_script.specs.Words.{line_words}
use Rattle.ospf_script.proofs.Leading.{LeadsTo}
use Rattle.ospf_script.proofs.several.values_in.Given as goal

abbrev pub invariant-loop-word : goal.invariant-loop-word
invariant-loop-word g l = LeadsTo g.V.Spelled.is_spelled (line_words l.fn.text) (line_words l.rest) l.values.items

abbrev pub decreases-loop-word : goal.decreases-loop-word
decreases-loop-word g l = length l.rest
