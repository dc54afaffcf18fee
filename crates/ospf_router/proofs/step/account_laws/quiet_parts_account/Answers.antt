use Rattle.ospf_router.proofs.AreaStep.NeighbourAccounts.{NeighboursGo-adjusts}
use Rattle.ospf_router.proofs.AreaStep.QuietAccounts.{Adjusts-accounts}
use Rattle.ospf_router.proofs.step.account_laws.quiet_parts_account.Goals as goal

pub returns : goal.returns
returns c heard before out after g = Adjusts-accounts heard before out after (NeighboursGo-adjusts heard before out after g)
