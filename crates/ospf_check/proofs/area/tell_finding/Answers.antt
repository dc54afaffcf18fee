use Rattle.std.proofs.Common.{rules, ◌≡◌, refl}
use Rattle.ospf_check.specs.Area.{at_memory, fault_lines, note_lines}
use Rattle.ospf_check.proofs.AreaWritten.{error_ended, output_ended}
use Rattle.ospf_check.proofs.area.tell_finding.Goals as goal

pub returns-in-Err-clause-ended : goal.returns-in-Err-clause-ended
returns-in-Err-clause-ended g c = at_memory refl refl

pub returns-then-is_note-2-clause-ended : goal.returns-then-is_note-2-clause-ended
returns-then-is_note-2-clause-ended g c =
    let shown : c.deref.result.now ≡ note_lines c.args.explain c.args.files.now c.args.finding.now = search rules in
    output_ended _ _ _ c.args.streams.now _ _ _ _ _ c.print.result c.print.ensures.failure c.print.ensures.failed c.print.ensures.begun shown

pub returns-clause-ended : goal.returns-clause-ended
returns-clause-ended g c =
    let shown : c.deref-else-is_note-2.result.now ≡ fault_lines c.args.explain c.args.files.now c.args.finding.now = search rules in
    error_ended _ _ _ c.args.streams.now _ _ _ _ _ c.tell.result c.tell.ensures.failure c.tell.ensures.failed c.tell.ensures.begun shown
