use Rattle.std.proofs.Common.{◌∙◌, sym}
use Rattle.ospf_neighbour.specs.Lists.{is_header_of}
use Rattle.ospf_neighbour.proofs.KeyLemmas.{no_position}
use Rattle.ospf_neighbour.proofs.requests.Requests.place_of.Goals as goal

pub returns-else-is_requested : goal.returns-else-is_requested
returns-else-is_requested c = sym (no_position (is_header_of c.args.key.now) c.args.self.now (sym c.is_requested.ensures ∙ c.if-is_requested.false))
