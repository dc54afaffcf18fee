use Rattle.ospf_originate.proofs.Wants.SaidLemmas.{attached_behind}
use Rattle.ospf_originate.proofs.contents.said.behind_attached.Goals as goal

pub returns : goal.returns
returns c =
    attached_behind c.args.router c.args.neighbours.now _ _ _ _ c.past_all_lower-rest.ensures c.behind_router-rest.ensures c.past_all_higher.ensures
