use Rattle.ospf_commands.proofs.Premises.{first_if_ok}
use Rattle.ospf_commands.proofs.premise.of_router.Goals as goal

pub returns : goal.returns
returns c =
    let tree = rw c.deref.ensures.value at c.in_ok-paths.ensures.tree in
    let first = rw c.deref-2.ensures.value at c.first_among.ensures in
    first_if_ok _ _ _ _ _ _ _ _ c.in_ok-listing.ensures c.in_ok-edges.ensures.edges tree c.in_ok-paths.ensures.settled_in_order first
