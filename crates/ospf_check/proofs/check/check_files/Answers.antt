use Rattle.std.proofs.Common.{rules, ◌≡◌, [], sym, subst}
use Rattle.ospf_files.specs.Listed.{AreConfigs}
use Rattle.ospf_check.proofs.Written.{cut_in, no_files, file_written, kept_more}
use Rattle.ospf_check.proofs.check.check_files.Goals as goal

pub loop-file-init : goal.loop-file-init
loop-file-init g c =
    let none : c.new-configs.result.items ≡ [] = search rules in
    (no_files _ _, subst (λ configs. AreConfigs [] configs) (sym none) tt)

pub loop-file-preserved : goal.loop-file-preserved
loop-file-preserved g c = (
  file_written _ _ _ _ _ _ _ _ _ c.loop-file-test.true c.file-item.is c.loop-file.invariant.0 c.in-Ok.ensures.told.1,
  kept_more _ _ _ _ _ _ _ c.loop-file-test.true c.file-item.is c.loop-file.invariant.1 c.in-Ok.ensures.kept,
)

pub returns-in-Err-clause-cut : goal.returns-in-Err-clause-cut
returns-in-Err-clause-cut g c =
    cut_in _ _ _ _ _ _ _ _ _ _ c.loop-file-test.true c.file-item.is c.loop-file.invariant.0 c.in-Err.ensures.ended
