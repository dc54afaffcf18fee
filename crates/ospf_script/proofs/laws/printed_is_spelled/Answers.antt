use Rattle.ospf_script.proofs.Printed.{printed_is_spelled}
use Rattle.ospf_script.proofs.laws.printed_is_spelled.Goals as goal

pub returns : goal.returns
returns c = printed_is_spelled
