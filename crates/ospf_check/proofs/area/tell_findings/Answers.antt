use Rattle.std.proofs.Common.{subst}
use Rattle.std.proofs.lemmas.List.{take_all}
use Rattle.ospf_files.specs.Streams.{written_on}
use Rattle.ospf_check.specs.Area.{IsFindingsWritten}
use Rattle.ospf_check.proofs.AreaWritten.{cut_at, no_findings, finding_written}
use Rattle.ospf_check.proofs.area.tell_findings.Goals as goal

pub loop-finding-init : goal.loop-finding-init
loop-finding-init g c = no_findings _ _ _

pub loop-finding-preserved : goal.loop-finding-preserved
loop-finding-preserved g c =
    rw c.is_note-sound.ensures
    (finding_written c.args.explain c.args.files.now _ _ _ c.args.findings.now c.loop-finding.finding-index c.finding-item.result c.loop-finding.sound c.loop-finding-test.true
    c.finding-item.is c.loop-finding.invariant c.in-Ok.ensures.out c.in-Ok.ensures.err)

pub returns-in-Err-clause-cut : goal.returns-in-Err-clause-cut
returns-in-Err-clause-cut g c =
    cut_at _ _ _ _ _ _ _ _ _ _ _ c.loop-finding-test.true c.finding-item.is c.loop-finding.invariant c.in-Err.ensures.ended

pub returns-clause-told : goal.returns-clause-told
returns-clause-told g c =
    subst (λ fs. IsFindingsWritten c.args.explain c.args.files.now fs c.loop-finding.sound
    (written_on (g.O.Write.contents c.args.out.now) (g.E.Write.contents c.args.err.now)) (written_on (g.O.Write.contents c.loop-finding.out) (g.E.Write.contents c.loop-finding.err)))
    (take_all c.loop-finding.finding-index c.args.findings.now c.loop-finding-test.false) c.loop-finding.invariant
