use Rattle.ospf_area.proofs.NumberLemmas.{own_counted}
use Rattle.ospf_area.proofs.laws.keeps_greatest.Goals as goal

pub returns : goal.returns
returns c = λ key number s k. own_counted s.router key k number s.floor s.numbering
