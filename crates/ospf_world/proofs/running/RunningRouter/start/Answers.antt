use Rattle.std.proofs.Common.{rules}
use Rattle.std.proofs.lemmas.Int.{to_z-of_z}
use Rattle.ospf_world.proofs.StartFacts.{begins}
use Rattle.ospf_world.proofs.running.RunningRouter.start.Goals as goal

pub returns-clause-begins : goal.returns-clause-begins
returns-clause-begins c = let s = begins _ _ _ c.args.issued _ _ c.in_ok-router.ensures.started c.in-Ok.ensures in search (rules, to_z-of_z, s)
