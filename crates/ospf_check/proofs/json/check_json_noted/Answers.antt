use Rattle.std.proofs.Common.{refl, subst, sym}
use Rattle.ospf_files.specs.Listed.{AreConfigs}
use Rattle.ospf_check.specs.Json.{behind_them, in_a_file, one_by_one, together}
use Rattle.ospf_check.proofs.Written.{told_then}
use Rattle.ospf_check.proofs.json.check_json_noted.Goals as goal

pub returns-in-Ok-Some-clause-done : goal.returns-in-Ok-Some-clause-done
returns-in-Ok-Some-clause-done g c is =
    let checked = rw c.in-Ok-Some.field-0-is at c.in-Ok-Some.ensures in
    let are = subst (AreConfigs c.args.files.now) (sym c.deref.ensures.value) checked.configs in
    let printed = c.print_together.ensures.done are is in
    together (told_then _ _ _ _ _ checked.told printed.1) printed.0

pub returns-in-Ok-Some-clause-refused : goal.returns-in-Ok-Some-clause-refused
returns-in-Ok-Some-clause-refused g c is =
    let checked = rw c.in-Ok-Some.field-0-is at c.in-Ok-Some.ensures in
    let are = subst (AreConfigs c.args.files.now) (sym c.deref.ensures.value) checked.configs in
    let printed = c.print_together.ensures.refused are is in
    together (told_then _ _ _ _ _ checked.told printed.1) printed.0

pub returns-in-Ok-Some-clause-cut : goal.returns-in-Ok-Some-clause-cut
returns-in-Ok-Some-clause-cut g c is =
    let checked = rw c.in-Ok-Some.field-0-is at c.in-Ok-Some.ensures in
    let are = subst (AreConfigs c.args.files.now) (sym c.deref.ensures.value) checked.configs in
    behind_them c.deref.result.now checked.told are (c.print_together.ensures.cut is)

pub returns-in-Ok-None-clause-refused : goal.returns-in-Ok-None-clause-refused
returns-in-Ok-None-clause-refused g c is =
    let checked = rw c.in-Ok-None.field-0-is at c.in-Ok-None.ensures in
    one_by_one checked.told refl

pub returns-in-Err-clause-cut : goal.returns-in-Err-clause-cut
returns-in-Err-clause-cut g c is =
    in_a_file (record { cause = c.in-Err.cause; failed_then = _; err_then = _; cut = c.in-Err.ensures.cut; last = c.tell_last.ensures.last; status_is = c.tell_last.ensures.status }) refl
