use Rattle.std.proofs.Common.{refl}
use Rattle.ospf_check.specs.Lines.{behind_them, in_a_file}
use Rattle.ospf_check.proofs.LineLemmas.{lines_printed, same_files}
use Rattle.ospf_check.proofs.lines.check_lines_noted.Goals as goal

pub returns-in-Ok-clause-done : goal.returns-in-Ok-clause-done
returns-in-Ok-clause-done g c is =
    let printed = c.print_checked.ensures.done is in
    lines_printed _ _ _ _ _ _ _ _ _ _ c.in-Ok.ensures.told c.in-Ok.ensures.configs printed.0 printed.1

pub returns-in-Ok-clause-refused : goal.returns-in-Ok-clause-refused
returns-in-Ok-clause-refused g c is =
    let printed = c.print_checked.ensures.refused is in
    lines_printed _ _ _ _ _ _ _ _ _ _ c.in-Ok.ensures.told c.in-Ok.ensures.configs printed.0 printed.1

pub returns-in-Ok-clause-cut : goal.returns-in-Ok-clause-cut
returns-in-Ok-clause-cut g c is =
    behind_them _ (same_files _ _ _ _ c.in-Ok.configs c.in-Ok.ensures.told) c.in-Ok.ensures.configs (c.print_checked.ensures.cut is)

pub returns-in-Err-clause-cut : goal.returns-in-Err-clause-cut
returns-in-Err-clause-cut g c is =
    in_a_file (record { cause = c.in-Err.cause; failed_then = _; err_then = _; cut = c.in-Err.ensures.cut; last = c.tell_last.ensures.last; status_is = c.tell_last.ensures.status }) refl
