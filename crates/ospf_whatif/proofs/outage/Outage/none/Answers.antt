use Rattle.ospf_whatif.proofs.OutageLemmas.{outage_none}
use Rattle.ospf_whatif.proofs.outage.Outage.none.Goals as goal

pub returns-clause-outage : goal.returns-clause-outage
returns-clause-outage c = λ adverts.
    outage_none adverts (record { failures = c.new.result; edges = c.new-2.result; ends = c.new-3.result }) c.new.ensures.items c.new-2.ensures.items c.new-3.ensures.items
