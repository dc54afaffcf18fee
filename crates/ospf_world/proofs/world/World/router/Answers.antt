use Rattle.ospf_world.proofs.world.World.router.Goals as goal

pub returns : goal.returns
returns c = rw (← c.self.view_is) c.router.ensures
