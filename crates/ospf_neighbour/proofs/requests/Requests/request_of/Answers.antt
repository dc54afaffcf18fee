use Rattle.std.proofs.Common.{◌∙◌, sym}
use Rattle.ospf_neighbour.proofs.NameLemmas.{no_request}
use Rattle.ospf_neighbour.proofs.requests.Requests.request_of.Goals as goal

pub returns-else-is_requested : goal.returns-else-is_requested
returns-else-is_requested c = sym (no_request c.args.key.now c.args.self.now (sym c.is_requested.ensures ∙ c.if-is_requested.false))
