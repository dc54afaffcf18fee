use Rattle.std.proofs.Common.{rules, ◌≡◌, ◌∙◌, ◌++◌, ◌∷◌, []}
use Rattle.ospf_files.proofs.Cut.{for_failure, for_memory}
use Rattle.ospf_files.proofs.Listed.{config_found, config_read, config_refused}
use Rattle.ospf_sim.specs.Begun.{IsWorldCut, no_world}
use Rattle.ospf_sim.proofs.Cuts.{file_cut}
use Rattle.ospf_sim.proofs.configs.read_configs.Goals as goal

pub returns-in-None-clause-come : goal.returns-in-None-clause-come
returns-in-None-clause-come g c =
    config_refused _ _ _ c.loop-file.configs.items c.in_ok-config.field-0 _ _ _ c.loop-file-test.true c.file-item.is c.loop-file.invariant.are
    c.loop-file.invariant.untold c.in-None.is c.in_ok-config.ensures.comes

pub returns-in_err-config-clause-cut : goal.returns-in_err-config-clause-cut
returns-in_err-config-clause-cut g c =
    for_failure c.from_residual.result c.in_err-config.field-0.0
    (IsWorldCut c.args.files.now c.read_config.new.streams (g.E.Write.contents c.args.err.now) (g.E.Write.contents c.read_config.new.err))
    c.from_residual.ensures.1
    (file_cut c.args.files.now c.loop-file.file-index c.file-item.result c.loop-file.configs.items _ _ _ _ _ c.loop-file-test.true c.file-item.is
    c.loop-file.invariant.are c.loop-file.invariant.untold c.in_err-config.ensures.cut)

pub loop-file-preserved : goal.loop-file-preserved
loop-file-preserved g c =
    let found = config_found c.file-item.result c.in_ok-config.field-0 c.in-Some.config _ _ c.in-Some.is c.in_ok-config.ensures.comes in
    let items : c.push.new.self.items ≡ c.loop-file.configs.items ++ c.in-Some.config ∷ [] = search rules in
    record {
      are = config_read _ _ _ c.loop-file.configs.items _ c.in-Some.config c.loop-file-test.true c.file-item.is c.loop-file.invariant.are found.0 items;
      untold = found.1 ∙ c.loop-file.invariant.untold;
    }

pub returns-in_err-map_err-in-Some-clause-cut : goal.returns-in_err-map_err-in-Some-clause-cut
returns-in_err-map_err-in-Some-clause-cut g c =
    let found = config_found c.file-item.result c.in_ok-config.field-0 c.in-Some.config _ _ c.in-Some.is c.in_ok-config.ensures.comes in
    for_memory c.from_residual-in_err-map_err-in-Some.result
    (IsWorldCut c.args.files.now c.read_config.new.streams (g.E.Write.contents c.args.err.now) (g.E.Write.contents c.read_config.new.err))
    c.from_residual-in_err-map_err-in-Some.ensures.1 (no_world (found.1 ∙ c.loop-file.invariant.untold))
