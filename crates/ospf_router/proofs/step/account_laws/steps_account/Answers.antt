use Rattle.ospf_router.proofs.AreaStep.StepAccounts.{StepLaws-accounts, StepLaws-sound}
use Rattle.ospf_router.proofs.step.account_laws.steps_account.Goals as goal

pub returns : goal.returns
returns c = record { accounts = StepLaws-accounts; sound = StepLaws-sound }
