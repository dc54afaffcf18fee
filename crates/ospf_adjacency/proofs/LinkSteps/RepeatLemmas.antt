-- The neighbours of a link after what is sent again.
use Rattle.std.proofs.Common.{◌≡◌, ◌∷◌, List, [], map, refl, ap, ◌∙◌}
use Rattle.ospf_neighbour.specs.declared.iface.machine.Iface.{Iface}
use Rattle.ospf_lsdb.specs.Database.{Held}
use Rattle.ospf_neighbour.specs.Neighbour.{NeighbourValue}
use Rattle.ospf_neighbour.specs.Neighbours.{AreNeighbours}
use Rattle.ospf_neighbour.proofs.NeighbourLemmas.{AreNeighbours-same, routers}
use Rattle.ospf_area.specs.declared.sending.RouterContext.{RouterContext}
use Rattle.ospf_area.specs.declared.state.LinkSettings.{LinkSettings}
use Rattle.ospf_adjacency.proofs.QuietLemmas.{repeats_are_quiet}
use Rattle.ospf_area.specs.Outboxes.{local_by}
use Rattle.ospf_adjacency.proofs.LinkSteps.Words.{neighbour_repeated}

repeated_router : (own : RouterContext) (i : Iface) (settings : LinkSettings) (db : List Held) (n : NeighbourValue) → (neighbour_repeated own i settings db n).router ≡ n.router
repeated_router own i settings db n = (repeats_are_quiet i (local_by own settings) settings.retransmit settings.transmit_delay db (record { neighbour = n; next = 0; sent = [] })).same.router

repeated_routers : (own : RouterContext) (i : Iface) (settings : LinkSettings) (db : List Held) (ns : List NeighbourValue) → routers (map (neighbour_repeated own i settings db) ns) ≡ routers ns
repeated_routers own i settings db [] = refl
repeated_routers own i settings db (n ∷ ns) =
    ap (λ r. r ∷ routers (map (neighbour_repeated own i settings db) ns)) (repeated_router own i settings db n) ∙ ap (λ rs. n.router ∷ rs) (repeated_routers own i settings db ns)

pub repeated_stay : (own : RouterContext) (i : Iface) (settings : LinkSettings) (db : List Held) (ns : List NeighbourValue) → AreNeighbours ns → AreNeighbours (map (neighbour_repeated own i settings db) ns)
repeated_stay own i settings db ns are = AreNeighbours-same _ _ (repeated_routers own i settings db ns) are
