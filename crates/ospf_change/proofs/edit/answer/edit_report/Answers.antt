use Rattle.ospf_change.proofs.Edits.KindLemmas.{line_reported, listing_reported}
use Rattle.ospf_change.proofs.edit.answer.edit_report.Goals as goal

pub returns-in_ok-report-in-Ok : goal.returns-in_ok-report-in-Ok
returns-in_ok-report-in-Ok g c =
    listing_reported (g.R.Read.remaining c.args.input) c.args.job.now c.in-Ok.read.listing c.in-Ok.read.left_out c.in_ok-report-in-Ok.report
    c.in-Ok.ensures.whole c.in-Ok.ensures.counted c.in_ok-report-in-Ok.ensures

pub returns-in_ok-report-in-Err-Entry : goal.returns-in_ok-report-in-Err-Entry
returns-in_ok-report-in-Err-Entry g c =
    line_reported (g.R.Read.remaining c.args.input) c.args.job.now c.in-Err-Entry.number c.in-Err-Entry.fault c.in_ok-report-in-Err-Entry.report
    (c.in-Err-Entry.ensures.refused c.in-Err-Entry.number c.in-Err-Entry.fault (cc)) c.in_ok-report-in-Err-Entry.ensures
