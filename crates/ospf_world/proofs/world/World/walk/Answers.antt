use Rattle.std.proofs.Common.{[], refl}
use Rattle.ospf_world.specs.World.{member}
use Rattle.ospf_router.specs.Steps.{is_dropped}
use Rattle.ospf_world.specs.Legs.{Walks}
use Rattle.ospf_world.specs.Worlds.{world_of}
use Rattle.ospf_world.proofs.WalkFacts.{never_turns, some_of}
use Rattle.ospf_world.proofs.world.World.walk.Goals as goal

pub returns-in-Ok-clause-walks : goal.returns-in-Ok-clause-walks
returns-in-Ok-clause-walks c =
    let m = some_of (member (world_of c.args.self.now) c.args.from) c.has_router.result c.has_router.ensures c.if-not-has_router.false in
    Walks.Walked m.0 c.in-Ok.walk m.1 refl c.in-Ok.ensures

pub returns-in-Ok-clause-never_turns : goal.returns-in-Ok-clause-never_turns
returns-in-Ok-clause-never_turns c = λ x none runs agree.
    let w = world_of c.args.self.now in
    let law = c.headline.ensures is_dropped [] w w c.reached.ensures refl in
    never_turns w c.args.from x c.args.address.0 c.args.choices.now c.in-Ok.walk.routers.items c.in-Ok.walk.cost c.in-Ok.walk.end runs (law.chosen c.args.from x none runs agree) c.in-Ok.ensures

pub returns-in-Ok-clause-never_turns_where_reached : goal.returns-in-Ok-clause-never_turns_where_reached
returns-in-Ok-clause-never_turns_where_reached c = λ x none runs agree.
    let w = world_of c.args.self.now in
    let law = c.headline.ensures is_dropped [] w w c.reached.ensures refl in
    never_turns w c.args.from x c.args.address.0 c.args.choices.now c.in-Ok.walk.routers.items c.in-Ok.walk.cost c.in-Ok.walk.end runs (law.reached_chosen c.args.from x none runs agree) c.in-Ok.ensures

pub returns-in-Err-clause-walks : goal.returns-in-Err-clause-walks
returns-in-Err-clause-walks c =
    let m = some_of (member (world_of c.args.self.now) c.args.from) c.has_router.result c.has_router.ensures c.if-not-has_router.false in
    Walks.NoMemory m.0 m.1 refl
