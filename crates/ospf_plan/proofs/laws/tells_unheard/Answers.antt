use Rattle.ospf_plan.proofs.UnheardLemmas.{each_told, unheard_rises}
use Rattle.ospf_plan.proofs.Words.{is_rising}
use Rattle.ospf_plan.specs.Ends.{ends_of}
use Rattle.ospf_plan.specs.Unheard.{unheard_in}
use Rattle.ospf_plan.specs.Wires.{wires_of}
use Rattle.ospf_plan.specs.Laws.{IsAhead}
use Rattle.ospf_plan.specs.declared.finding.Finding.{Finding}
use Rattle.ospf_plan.proofs.laws.tells_unheard.Goals as goal

pub returns-clause-each : goal.returns-clause-each
returns-clause-each c = each_told

pub returns-clause-in_order : goal.returns-clause-in_order
returns-clause-in_order c = λ configs.
    is_rising (λ (f g : Finding). IsAhead f.here g.here) (unheard_in (ends_of configs) (wires_of configs)) (unheard_rises configs)
