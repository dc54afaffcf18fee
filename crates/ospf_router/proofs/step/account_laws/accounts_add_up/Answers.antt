use Rattle.ospf_router.proofs.AreaStep.Compose.{Accounts-then}
use Rattle.ospf_router.proofs.step.account_laws.accounts_add_up.Goals as goal

pub returns : goal.returns
returns c heard s t u a b first next none_enters none_ended = Accounts-then heard s t u a b first next none_enters none_ended
