use Rattle.std.proofs.Common.{rules, ◌≡◌, Some, refl}
use Rattle.ospf_files.specs.Files.{bytes_of}
use Rattle.ospf_check.specs.Checked.{no_memory}
use Rattle.ospf_check.proofs.Written.{error_ends, output_ends}
use Rattle.ospf_check.proofs.check.check_file.Goals as goal

pub returns-in-Ok-Accepted-clause-ended : goal.returns-in-Ok-Accepted-clause-ended
returns-in-Ok-Accepted-clause-ended g c =
    let held : bytes_of c.args.file.now ≡ Some c.deref.result.now = search rules in
    let judged = rw c.in-Ok-Accepted.field-0-is at c.in-Ok-Accepted.ensures in
    output_ends _ _ c.args.streams.now _ _ _ _ _ _ _ (judged.verdict held) c.deref-in-Ok-Accepted.ensures c.in-Err-print.ensures.failure c.in-Err-print.ensures.failed c.in-Err-print.ensures.begun

pub returns-in-Ok-Refused-clause-ended : goal.returns-in-Ok-Refused-clause-ended
returns-in-Ok-Refused-clause-ended g c =
    let held : bytes_of c.args.file.now ≡ Some c.deref.result.now = search rules in
    let judged = rw c.in-Ok-Refused.field-0-is at c.in-Ok-Refused.ensures in
    error_ends _ _ c.args.streams.now _ _ _ _ _ _ _ (judged.verdict held) c.deref-in-Ok-Refused.ensures c.in-Err-tell.ensures.failure c.in-Err-tell.ensures.failed c.in-Err-tell.ensures.begun

pub returns : goal.returns
returns g c = record { told = tt; kept = tt; ended = no_memory refl refl }
