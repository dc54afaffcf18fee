use Rattle.std.proofs.Common.{◌∙◌, sym}
use Rattle.ospf_neighbour.proofs.KeyLemmas.{no_position}
use Rattle.ospf_neighbour.proofs.Words.{is_of_key}
use Rattle.ospf_neighbour.proofs.retransmissions.Retransmissions.key_place.Goals as goal

pub returns-else-is_key_listed : goal.returns-else-is_key_listed
returns-else-is_key_listed c = sym (no_position (is_of_key c.args.key.now) c.args.self.now (sym c.is_key_listed.ensures ∙ c.if-is_key_listed.false))
