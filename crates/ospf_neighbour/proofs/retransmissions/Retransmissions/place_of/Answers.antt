use Rattle.std.proofs.Common.{◌∙◌, sym}
use Rattle.ospf_neighbour.specs.Lists.{is_of_instance}
use Rattle.ospf_neighbour.proofs.KeyLemmas.{no_position}
use Rattle.ospf_neighbour.proofs.retransmissions.Retransmissions.place_of.Goals as goal

pub returns-else-is_listed : goal.returns-else-is_listed
returns-else-is_listed c =
    sym (no_position (is_of_instance c.args.instance.now) c.args.self.now (sym c.is_listed.ensures ∙ c.if-is_listed.false))
