use Rattle.std.proofs.Common.{◌≡◌, ◌∙◌, ap, set, sym, get_or}
use Rattle.std.proofs.lemmas.List.Edits.{map_over_more}
use Rattle.ospf_adjacency.specs.Repeats.{due_keys}
use Rattle.ospf_neighbour.specs.Neighbour.{NeighbourValue}
use Rattle.ospf_area.proofs.PlaceLemmas.{map_read}
use Rattle.ospf_area.proofs.SendingLemmas.{sends_step}
use Rattle.ospf_adjacency.proofs.LinkSteps.Words.{neighbour_repeated, repeats_to}
use Rattle.ospf_adjacency.proofs.LinkSteps.MarkLemmas.{marks_step}
use Rattle.ospf_adjacency.proofs.link_steps.repeats.repeat_to_each.Goals as goal

pub loop-neighbour-preserved : goal.loop-neighbour-preserved
loop-neighbour-preserved c =
    let on = c.args.on.now in
    let db = c.args.database.now in
    let f = neighbour_repeated on.own on.iface on.settings db in
    let xs = c.args.all.now in
    let ys = c.loop-neighbour.all in
    let i = c.loop-neighbour.neighbour-index in
    let x = c.neighbour-item.result in
    let lt = c.loop-neighbour-test.true in
    let read : x ≡ get_or xs i x = map_read f xs ys i x lt c.loop-neighbour.invariant.repeated c.neighbour-item.is in
    record {
      repeated = ap (λ (v : NeighbourValue). set ys i v) (c.in_ok-repeat_to.ensures.after ∙ ap f (sym c.neighbour-item.is)) ∙ map_over_more f xs ys i x lt c.loop-neighbour.invariant.repeated c.neighbour-item.is;
      sent = c.in_ok-repeat_to.ensures.sent ∙ sends_step (repeats_to on.own on.number on.iface on.settings db) c.args.out.now c.loop-neighbour.out xs i x (get_or ys i x) lt (sym c.neighbour-item.is) read c.loop-neighbour.invariant.sent;
      marks = c.in_ok-repeat_to.ensures.marks ∙ marks_step (due_keys on.settings.retransmit on.own.tick db) c.args.sent.now.keys c.loop-neighbour.sent.keys xs i x (get_or ys i x) lt (sym c.neighbour-item.is) read c.loop-neighbour.invariant.marks;
    }
