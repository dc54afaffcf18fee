use Rattle.ospf_change.proofs.diff.report.diff_text.Goals as goal

pub returns : goal.returns
returns g c = record { report = c.diff_report.result; is = c.diff_report.ensures; printed = c.print_report.ensures }
