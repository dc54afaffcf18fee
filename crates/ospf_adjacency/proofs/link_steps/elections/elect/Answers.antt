use Rattle.std.proofs.Common.{add-one}
use Rattle.ospf_adjacency.proofs.LinkSteps.ElectionLemmas.{at_ready}
use Rattle.ospf_adjacency.proofs.link_steps.elections.elect.Goals as goal

pub loop-number-preserved : goal.loop-number-preserved
loop-number-preserved c =
    let e = c.in_ok-elect_at.ensures in
    record {
      ready = at_ready c.loop-number.number c.loop-number.area c.elect_at.new.area c.loop-number.out c.elect_at.new.out e c.loop-number.invariant.ready;
      elects = rw add-one (c.loop-number.area, c.loop-number.out, c.loop-number.invariant.elects, e);
    }
