use Rattle.ospf_area.proofs.NumberLemmas.{marks}
use Rattle.ospf_area.proofs.laws.marks_one.Goals as goal

pub returns : goal.returns
returns c = marks
