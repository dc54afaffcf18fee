use Rattle.ospf_notes.proofs.Listed.{at_by}
use Rattle.ospf_notes.proofs.lsa_changes.lsa_at.Goals as goal

pub returns : goal.returns
returns c = at_by c.get.result c.args.listing.now c.args.key.now c.get.ensures.listing c.get.ensures.found c.get.ensures.none
