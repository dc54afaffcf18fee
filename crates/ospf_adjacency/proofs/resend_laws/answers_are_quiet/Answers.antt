use Rattle.ospf_adjacency.proofs.QuietLemmas.{answers_are_quiet}
use Rattle.ospf_adjacency.proofs.resend_laws.answers_are_quiet.Goals as goal

pub returns : goal.returns
returns c = answers_are_quiet
