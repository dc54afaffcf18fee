use Rattle.ospf_table.proofs.HexText.{no_text-spells_none}
use Rattle.ospf_table.proofs.line.lsa_of_line.Goals as goal

pub returns-in-Err-clause-not_hex : goal.returns-in-Err-clause-not_hex
returns-in-Err-clause-not_hex c = λ _. no_text-spells_none c.args.text.now c.in-Err.ensures.cases.0
