use Rattle.ospf_change.proofs.Diffs.ReportLemmas.{refused_line}
use Rattle.ospf_change.proofs.diff.report.area_of.Goals as goal

pub returns-in-Err-Entry-clause-fault : goal.returns-in-Err-Entry-clause-fault
returns-in-Err-Entry-clause-fault g c =
    refused_line c.args.name.now (g.R.Read.remaining c.args.input) c.in-Err-Entry.number c.in-Err-Entry.fault c.line_refused.result
    (c.in-Err-Entry.ensures.refused c.in-Err-Entry.number c.in-Err-Entry.fault (cc)) c.line_refused.ensures
