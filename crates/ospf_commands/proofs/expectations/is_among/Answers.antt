use Rattle.ospf_commands.specs.Expectations.{IsAmong}
use Rattle.ospf_commands.proofs.Among.{among}
use Rattle.ospf_commands.proofs.expectations.is_among.Goals as goal

pub returns : goal.returns
unfolding IsAmong
returns c = among c.args.hop.now c.args.hops.now c.contains.result c.contains.ensures.value
