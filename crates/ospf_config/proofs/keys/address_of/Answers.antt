use Rattle.ospf_config.proofs.HostLists.{reads_as}
use Rattle.ospf_config.proofs.keys.address_of.Goals as goal

pub returns : goal.returns
returns c = reads_as _ _ c.may_have_31.ensures _ c.address_spelled.result c.address_spelled.ensures
