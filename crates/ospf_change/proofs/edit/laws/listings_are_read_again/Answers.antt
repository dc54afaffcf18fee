use Rattle.ospf_change.proofs.Edits.ReadBackLemmas.{read_again}
use Rattle.ospf_change.proofs.edit.laws.listings_are_read_again.Goals as goal

pub returns : goal.returns
returns c = read_again
