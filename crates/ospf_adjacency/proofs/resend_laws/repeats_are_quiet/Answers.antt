use Rattle.ospf_adjacency.proofs.QuietLemmas.{repeats_are_quiet}
use Rattle.ospf_adjacency.proofs.resend_laws.repeats_are_quiet.Goals as goal

pub returns : goal.returns
returns c = repeats_are_quiet
