use Rattle.ospf_whatif.proofs.LinksBackLemmas.{only_links_back_count}
use Rattle.ospf_whatif.proofs.laws.only_links_back_count.Goals as goal

pub returns : goal.returns
returns c = only_links_back_count
