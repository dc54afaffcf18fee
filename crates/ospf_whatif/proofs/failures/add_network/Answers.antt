use Rattle.std.proofs.Common.{◌≡◌}
use Rattle.ospf_whatif.specs.Single.{NetworkGiven}
use Rattle.ospf_whatif.specs.declared.failure.AreaFailure.TheVariants.{Network}
use Rattle.ospf_graph.proofs.EdgeLists.AddsLemmas.{adds_as}
use Rattle.ospf_whatif.proofs.SingleLemmas.{one_network}
use Rattle.ospf_whatif.proofs.failures.add_network.Goals as goal

pub returns-in_ok-add_failure-in-Router-Network : goal.returns-in_ok-add_failure-in-Router-Network
returns-in_ok-add_failure-in-Router-Network c =
    adds_as (λ f. f ≡ Network c.in-Router-Network.network) (NetworkGiven c.args.edge.now) _ _
    (one_network c.args.edge.now c.in-Router-Network.field-0-0 c.in-Router-Network.network c.in-Router-Network.is-0 c.in-Router-Network.is-1)
    c.in_ok-add_failure-in-Router-Network.ensures
