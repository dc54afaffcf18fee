use Rattle.ospf_whatif.specs.Single.{AttachmentGiven, LinksGiven, NetworkGiven, UnnumberedGiven}
use Rattle.std.proofs.Common.{◌⊎◌}
use Rattle.ospf_graph.proofs.EdgeLists.AddsLemmas.{adds_both}
use Rattle.ospf_whatif.proofs.failures.add_edge.Goals as goal

pub returns : goal.returns
returns c =
    let P = LinksGiven c.args.wired.now c.args.edge.now in
    let U = UnnumberedGiven c.args.wired.now c.args.edge.now in
    let Q = AttachmentGiven c.args.edge.now in
    let R = NetworkGiven c.args.edge.now in
    let untold = adds_both P U _ _ _ c.in_ok-add_links.ensures c.in_ok-add_unnumbered.ensures in
    adds_both (λ f. (P f ⊎ U f) ⊎ Q f) R _ _ _ (adds_both (λ f. P f ⊎ U f) Q _ _ _ untold c.in_ok-add_attachment.ensures) c.in_ok-add_network.ensures
