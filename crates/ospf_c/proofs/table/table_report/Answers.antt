use Rattle.ospf_c.proofs.TableLemmas.{line_reported}
use Rattle.ospf_c.proofs.table.table_report.Goals as goal

pub returns-in_ok-report-in-Err-Entry : goal.returns-in_ok-report-in-Err-Entry
returns-in_ok-report-in-Err-Entry c =
    line_reported c.args.lsas.now c.args.root c.args.addresses.now c.in-Err-Entry.number _ c.in-Err-Entry.fault _ c.in_ok-report-in-Err-Entry.report
    c.in-Err-Entry.number-is c.in-Err-Entry.fault-is
    (c.in-Err-Entry.ensures.refused c.in-Err-Entry.number c.in-Err-Entry.fault (cc)) c.in_ok-report-in-Err-Entry.ensures
