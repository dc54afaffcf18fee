use Rattle.ospf_world.proofs.walk.leg_over.Goals as goal

pub returns-in-PointToPoint : goal.returns-in-PointToPoint
returns-in-PointToPoint c = c.crossing.ensures c.args.cost

pub returns-in-Lan : goal.returns-in-Lan
returns-in-Lan c = c.crossing-in-Lan.ensures c.args.cost
