use Rattle.ospf_commands.proofs.Headlines.{headline_of_all, headline_of_one}
use Rattle.ospf_commands.proofs.laws.headline_law.Goals as goal

pub returns : goal.returns
returns c = record { of_one = headline_of_one; of_all = headline_of_all }
