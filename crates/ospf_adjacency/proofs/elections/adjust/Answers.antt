use Rattle.std.proofs.Common.{◌∙◌, ap, Bool, get_or}
use Rattle.ospf_base.specs.declared.ids.Addr.{Addr}
use Rattle.ospf_neighbour.specs.Neighbour.{NeighbourValue}
use Rattle.ospf_neighbour.specs.declared.machine.NbrEvent.TheVariants.{AdjOk}
use Rattle.ospf_adjacency.specs.Adjacency.{wants_adjacency}
use Rattle.ospf_area.specs.Turns.{Turn}
use Rattle.ospf_adjacency.proofs.ElectionLemmas.{adjusted-more}
use Rattle.ospf_adjacency.proofs.elections.adjust.Goals as goal

pub loop-neighbour-preserved : goal.loop-neighbour-preserved
loop-neighbour-preserved c =
    let at = c.args.at.now in
    let before = c.args.outbox.now in
    let outbox = c.loop-neighbour.outbox in
    let after = c.take_event.new.outbox in
    let now = c.loop-neighbour.neighbours in
    let k = c.loop-neighbour.neighbour-index in
    adjusted-more at.iface at.local.mtu at.local.tick before.next c.args.neighbours.now k now outbox.next after.next
    before.sent outbox.sent after.sent _ (get_or now k c.neighbour-item.result) c.take_event.new.neighbour
    c.loop-neighbour.invariant c.loop-neighbour-test.true (ap (λ (d : NeighbourValue). get_or now k d) c.neighbour-item.is)
    (ap (λ (b : Bool). AdjOk b) (c.wants_adjacency.ensures ∙ ap (λ (a : Addr). wants_adjacency at.iface a) c.address.ensures))
    c.take_event.ensures.neighbour c.take_event.ensures.number (ap (λ (t : Turn). t.sent) c.in_ok-take_event.ensures.turn)
