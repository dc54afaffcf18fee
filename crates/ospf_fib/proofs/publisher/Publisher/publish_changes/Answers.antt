use Rattle.std.proofs.Common.{subst}
use Rattle.std.specs.Result.{IfOk}
use Rattle.ospf_fib.specs.PrefixIndex.Known.{Known}
use Rattle.ospf_fib.specs.Versions.{AddsEdited}
use Rattle.ospf_fib.proofs.publisher.Publisher.publish_changes.Goals as goal

pub returns-in-Ok-clause-published : goal.returns-in-Ok-clause-published
returns-in-Ok-clause-published g c =
    let after = c.publish_changes.result in
    subst (λ (known : Known). IfOk after.1 (λ _. AddsEdited known.tables c.args.changes after.0.tables)) c.in-Ok.ensures.opened c.publish_changes.ensures.published
