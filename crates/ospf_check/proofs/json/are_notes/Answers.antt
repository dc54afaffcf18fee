use Rattle.std.proofs.Common.{◌∙◌, ap, not}
use Rattle.std.specs.List.{list_any}
use Rattle.std.proofs.lemmas.List.{take_all}
use Rattle.ospf_check.specs.Area.{is_fault}
use Rattle.ospf_check.proofs.JsonLemmas.{notes_next}
use Rattle.ospf_check.proofs.json.are_notes.Goals as goal

pub loop-finding-preserved : goal.loop-finding-preserved
loop-finding-preserved c =
    rw c.is_note-sound.ensures
    (notes_next c.args.findings.now c.loop-finding.finding-index c.finding-item.result c.loop-finding.sound c.loop-finding-test.true c.finding-item.is c.loop-finding.invariant)

pub returns : goal.returns
returns c = c.loop-finding.invariant ∙ ap (λ fs. not (list_any is_fault fs)) (take_all c.loop-finding.finding-index c.args.findings.now c.loop-finding-test.false)
