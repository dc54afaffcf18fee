use Rattle.ospf_run.proofs.Known.{follows_on}
use Rattle.ospf_run.proofs.look.look_until.Goals as goal

pub loop-init : goal.loop-init
loop-init g c = (tt, tt, c.look_once-seat.ensures)

pub loop-preserved : goal.loop-preserved
loop-preserved g c = (tt, tt, follows_on _ _ _ c.loop.invariant.2 c.look_once-seat-in-loop.ensures)
