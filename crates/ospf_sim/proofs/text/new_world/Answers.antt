use Rattle.std.proofs.Common.{◌≡◌, refl, Some, option_map}
use Rattle.std.proofs.lemmas.Result.{IfErr-weaker}
use Rattle.std.specs.Prelude.{Vec}
use Rattle.std.specs.declared.alloc.Global.{Global}
use Rattle.ospf_config.specs.declared.config.Config.{Config}
use Rattle.ospf_sim.specs.Begun.{IsOpeningCut, IsWorldCut}
use Rattle.ospf_sim.proofs.Cuts.{opening_cut}
use Rattle.ospf_sim.proofs.Worlds.{as_many, world_comes}
use Rattle.ospf_sim.proofs.text.new_world.Goals as goal

pub open_world-requires : goal.open_world-requires
open_world-requires g c =
    let found : option_map (λ (configs : Vec Config Global). configs.items) c.in_ok-configs.field-0 ≡ Some c.in-Some.configs.items = rw c.in-Some.is refl in
    as_many _ c.in-Some.configs.items c.args.files.now _ _ found c.in_ok-configs.ensures.come

pub returns-in-Some-clause-comes : goal.returns-in-Some-clause-comes
returns-in-Some-clause-comes g c =
    let found : option_map (λ (configs : Vec Config Global). configs.items) c.in_ok-configs.field-0 ≡ Some c.in-Some.configs.items = rw c.in-Some.is refl in
    world_comes _ c.in-Some.configs.items _ _ _ _ _ found c.in_ok-configs.ensures.come c.open_world.ensures.opens

pub returns-in-Some-clause-cut : goal.returns-in-Some-clause-cut
returns-in-Some-clause-cut g c =
    let found : option_map (λ (configs : Vec Config Global). configs.items) c.in_ok-configs.field-0 ≡ Some c.in-Some.configs.items = rw c.in-Some.is refl in
    IfErr-weaker c.open_world.result
    (IsOpeningCut c.args.files.now c.in-Some.configs.items c.open_world.new.streams (g.E.Write.contents c.read_configs.new.err) (g.E.Write.contents c.open_world.new.err))
    (IsWorldCut c.args.files.now c.open_world.new.streams (g.E.Write.contents c.args.err.now) (g.E.Write.contents c.open_world.new.err))
    (λ f cut. opening_cut _ c.in-Some.configs.items c.args.files.now _ _ _ _ f found c.in_ok-configs.ensures.come cut) c.open_world.ensures.cut
