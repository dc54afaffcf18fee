use Rattle.ospf_script.proofs.OneCommand.{one_command}
use Rattle.ospf_script.proofs.laws.words_spell_one_command.Goals as goal

pub returns : goal.returns
returns c = one_command
