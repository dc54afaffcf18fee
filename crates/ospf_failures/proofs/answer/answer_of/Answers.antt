use Rattle.std.proofs.Common.{◌∙◌, ◌++◌, ℕ, List, ap, string_bytes, subst, sym}
use Rattle.ospf_graph.specs.EdgeLists.Listed.{advertisements_of}
use Rattle.ospf_failures.specs.Answer.{SaysOf, head_of}
use Rattle.ospf_harm.specs.declared.asked.FailuresStatus.{FailuresStatus}
use Rattle.ospf_failures.proofs.AnswerLemmas.{answer_made, names_refused}
use Rattle.ospf_failures.proofs.answer.answer_of.Goals as goal

pub returns-in-Err-clause-fault : goal.returns-in-Err-clause-fault
returns-in-Err-clause-fault g c =
    names_refused (g.R.Read.remaining c.args.input) c.args.job.now c.in_ok-read.read.listing c.in-Err.fault c.in_ok-read.ensures.whole c.in_ok-read.ensures.small
    c.in-Err.ensures.fault
