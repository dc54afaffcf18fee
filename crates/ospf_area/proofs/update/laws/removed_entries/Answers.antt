use Rattle.ospf_area.specs.Updates.Removal.{leaving}
use Rattle.ospf_area.proofs.Updates.RemovalLemmas.{removed_all}
use Rattle.ospf_area.proofs.update.laws.removed_entries.Goals as goal

pub returns : goal.returns
returns c = λ before out out' after removes key. removed_all (leaving before) before after out out' removes key
