use Rattle.ospf_area.proofs.Updates.Words.{reset_one}
use Rattle.ospf_area.proofs.PlaceLemmas.{map_over_copied}
use Rattle.ospf_area.proofs.update.removal.reset_all.Goals as goal

pub loop-numbering-preserved : goal.loop-numbering-preserved
loop-numbering-preserved c = map_over_copied (reset_one c.args.key.now) c.args.all.now c.loop-numbering.all c.loop-numbering.numbering-index _ c.reset_one.new.numbering c.loop-numbering-test.true c.loop-numbering.auto.all c.loop-numbering.invariant c.reset_one.ensures
