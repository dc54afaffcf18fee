-- ospf_area/proofs/asking/turn_all/Answers.antt
use Rattle.std.proofs.Common.{◌≡◌, ◌∙◌, ap, set, sym, get_or, take}
use Rattle.std.proofs.lemmas.List.Edits.{map_over_more}
use Rattle.ospf_neighbour.specs.Neighbour.{NeighbourValue}
use Rattle.ospf_area.specs.Asking.{turned_to_next}
use Rattle.ospf_area.specs.Outboxes.{OutboxValue, and_packets}
use Rattle.ospf_area.specs.Turns.{all_next_packets, next_packets}
use Rattle.ospf_neighbour.proofs.NeighbourLemmas.{AreNeighbours-same, routers-set}
use Rattle.ospf_area.proofs.NeighbourLemmas.{turned-router}
use Rattle.ospf_area.proofs.PlaceLemmas.{flat_map_step, map_read}
use Rattle.ospf_area.proofs.OutboxLemmas.{packets_more, turn_leaves}
use Rattle.ospf_area.proofs.asking.turn_all.Goals as goal

pub returns-in_err-request_turn-clause-still : goal.returns-in_err-request_turn-clause-still
returns-in_err-request_turn-clause-still c =
    let f = turned_to_next c.args.at.now.local.mtu c.args.at.now.local.tick in
    let is_new : c.request_turn.new.neighbour ≡ f c.neighbour-item.result = c.request_turn.ensures.after ∙ ap f (sym c.neighbour-item.is) in
    AreNeighbours-same _ _ (routers-set c.loop-neighbour.neighbours c.loop-neighbour.neighbour-index c.neighbour-item.result c.request_turn.new.neighbour c.neighbour-item.is (ap (λ (n : NeighbourValue). n.router) is_new ∙ turned-router _ _ c.neighbour-item.result) ∙ c.loop-neighbour.invariant.still) c.requires.few

pub loop-neighbour-preserved : goal.loop-neighbour-preserved
loop-neighbour-preserved c =
    let iface = c.args.at.now.iface in
    let local = c.args.at.now.local in
    let f = turned_to_next local.mtu local.tick in
    let xs = c.args.neighbours.now in
    let ys = c.loop-neighbour.neighbours in
    let i = c.loop-neighbour.neighbour-index in
    let x = c.neighbour-item.result in
    let old = get_or ys i x in
    let lt = c.loop-neighbour-test.true in
    let is_new : c.request_turn.new.neighbour ≡ f x = c.request_turn.ensures.after ∙ ap f (sym c.neighbour-item.is) in
    let read : x ≡ get_or xs i x = map_read f xs ys i x lt c.loop-neighbour.invariant.turned c.neighbour-item.is in
    let sent : c.request_turn.new.outbox ≡ and_packets c.loop-neighbour.outbox (next_packets iface local old) = turn_leaves iface local old c.request_turn.new.neighbour c.loop-neighbour.outbox c.request_turn.new.outbox c.in_ok-request_turn.ensures.turn in
    record {
      turned = ap (λ (v : NeighbourValue). set ys i v) is_new ∙ map_over_more f xs ys i x lt c.loop-neighbour.invariant.turned c.neighbour-item.is;
      sent = sent
          ∙ ap (λ (p : OutboxValue). and_packets p (next_packets iface local old)) c.loop-neighbour.invariant.sent
          ∙ ap (λ (n : NeighbourValue). and_packets (and_packets c.args.outbox.now (all_next_packets iface local (take i xs))) (next_packets iface local n)) (sym c.neighbour-item.is ∙ read)
          ∙ packets_more c.args.outbox.now (all_next_packets iface local (take i xs)) (next_packets iface local (get_or xs i x))
          ∙ ap (and_packets c.args.outbox.now) (sym (flat_map_step (next_packets iface local) xs i x lt));
      still = routers-set ys i x c.request_turn.new.neighbour c.neighbour-item.is (ap (λ (n : NeighbourValue). n.router) is_new ∙ turned-router _ _ x) ∙ c.loop-neighbour.invariant.still;
    }

pub returns-clause-still : goal.returns-clause-still
returns-clause-still c = AreNeighbours-same _ _ c.loop-neighbour.invariant.still c.requires.few
