use Rattle.ospf_views.proofs.RecordFiles.Unwritten.{cut_early, cut_later, on_err, tells_first_all, tells_first_not, tells_nothing}
use Rattle.ospf_views.specs.RecordFiles.Files.{names_in}
use Rattle.ospf_views.proofs.records.files.write_records.Goals as goal

pub returns-in_err-drawn-clause-cut : goal.returns-in_err-drawn-clause-cut
returns-in_err-drawn-clause-cut g c = on_err c.from_residual.result (cut_early (names_in c.args.pcap) c.in_err-drawn.ensures.cut)

pub returns-in_err-captured-clause-cut : goal.returns-in_err-captured-clause-cut
returns-in_err-captured-clause-cut g c = on_err c.from_residual-in_err-captured.result (cut_later c.in_ok-drawn.ensures.told c.in_err-captured.ensures.cut)

pub returns-then-drawn-clause-told : goal.returns-then-drawn-clause-told
returns-then-drawn-clause-told g c = tells_first_all c.if-drawn.true c.in_ok-drawn.ensures.told c.in_ok-captured.ensures.told

pub returns-then-drawn-clause-silent : goal.returns-then-drawn-clause-silent
returns-then-drawn-clause-silent g c = λ is. tells_nothing (tells_first_all c.if-drawn.true c.in_ok-drawn.ensures.told c.in_ok-captured.ensures.told) (cc is)

pub returns-else-drawn-clause-told : goal.returns-else-drawn-clause-told
returns-else-drawn-clause-told g c = tells_first_not c.if-drawn.false c.in_ok-drawn.ensures.told c.in_ok-captured.ensures.told
