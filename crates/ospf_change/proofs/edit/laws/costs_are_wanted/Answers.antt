use Rattle.ospf_change.proofs.Edits.WantedLemmas.{costs_are_wanted}
use Rattle.ospf_change.proofs.edit.laws.costs_are_wanted.Goals as goal

pub returns : goal.returns
returns c = costs_are_wanted
