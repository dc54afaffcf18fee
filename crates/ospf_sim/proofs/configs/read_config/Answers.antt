use Rattle.std.proofs.Common.{rules, refl}
use Rattle.ospf_files.proofs.Cut.{for_failure}
use Rattle.ospf_files.specs.Files.{IsRefusedFor, text_in}
use Rattle.ospf_sim.specs.Begun.{IsFileCut, in_fault, no_config}
use Rattle.ospf_sim.proofs.configs.read_config.Goals as goal

pub returns-in-Err-Memory-clause-cut : goal.returns-in-Err-Memory-clause-cut
returns-in-Err-Memory-clause-cut g c = no_config refl

pub returns-in_err-tell_refused-in-Err-clause-cut : goal.returns-in_err-tell_refused-in-Err-clause-cut
returns-in_err-tell_refused-in-Err-clause-cut g c =
    let refused : IsRefusedFor (text_in c.args.file.now) c.in-Err.fault = search rules in
    for_failure c.from_residual.result c.in_err-tell_refused-in-Err.field-0.0
    (IsFileCut c.args.file.now c.tell_refused.new.streams (g.E.Write.contents c.args.err.now) (g.E.Write.contents c.tell_refused.new.err))
    c.from_residual.ensures.1 (in_fault c.in-Err.fault c.in_err-tell_refused-in-Err.ensures.cut refused c.in_err-tell_refused-in-Err.ensures.begun)
