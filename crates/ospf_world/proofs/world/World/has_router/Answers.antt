use Rattle.std.proofs.Common.{◌∙◌, ap, is_some}
use Rattle.ospf_world.proofs.LendFacts.{is_member}
use Rattle.ospf_world.proofs.world.World.has_router.Goals as goal

pub returns : goal.returns
returns c = c.is_some.ensures ∙ ap is_some c.place.ensures ∙ is_member c.args.self.now c.args.router
