use Rattle.std.specs.HashMap.{get}
use Rattle.ospf_neighbour.specs.Lists.{key_eq}
use Rattle.ospf_neighbour.proofs.KeyLemmas.{tells_more}
use Rattle.ospf_neighbour.proofs.retransmissions.keep_instances.Goals as goal

pub loop-listed-preserved : goal.loop-listed-preserved
loop-listed-preserved c =
    tells_more (get key_eq c.loop-listed.instances) (get key_eq c.insert.new.self) c.loop-listed.listed-index c.args.entries.now _
    c.requires c.loop-listed-test.true c.loop-listed.invariant c.in_ok-insert.ensures.updates.0
