use Rattle.std.proofs.Common.{rules}
use Rattle.ospf_drive.proofs.Ended.{driven_into}
use Rattle.ospf_drive.proofs.all.drive_one.Goals as goal

pub returns-in_err-told : goal.returns-in_err-told
returns-in_err-told g c = search (rules, driven_into)
