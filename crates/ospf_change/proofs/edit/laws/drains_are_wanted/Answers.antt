use Rattle.ospf_change.proofs.Edits.WantedLemmas.{drains_are_wanted}
use Rattle.ospf_change.proofs.edit.laws.drains_are_wanted.Goals as goal

pub returns : goal.returns
returns c = drains_are_wanted
