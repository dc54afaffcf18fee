use Rattle.ospf_plan.proofs.PartLemmas.{parts_rise}
use Rattle.ospf_plan.proofs.Words.{is_rising}
use Rattle.ospf_plan.specs.Ends.{ends_of}
use Rattle.ospf_plan.specs.Parts.{apart_in}
use Rattle.ospf_plan.specs.Laws.{IsAhead}
use Rattle.ospf_plan.specs.declared.finding.Finding.{Finding}
use Rattle.ospf_plan.proofs.laws.tells_parts_in_order.Goals as goal

pub returns : goal.returns
returns c = λ configs reached.
    is_rising (λ (f g : Finding). IsAhead f.here g.here) (apart_in reached (ends_of configs)) (parts_rise configs reached)
