use Rattle.ospf_area.proofs.PlaceLemmas.{map_over_copied}
use Rattle.ospf_originate.proofs.Words.{issued_one}
use Rattle.ospf_originate.proofs.numbers.note_issue.Goals as goal

pub loop-numbering-preserved : goal.loop-numbering-preserved
loop-numbering-preserved c =
    map_over_copied (issued_one c.args.key.now c.args.tick) c.args.all.now c.loop-numbering.all c.loop-numbering.numbering-index _ c.note_one.new.numbering c.loop-numbering-test.true c.loop-numbering.auto.all
    c.loop-numbering.invariant c.note_one.ensures
