use Rattle.std.proofs.Common.{◌≡◌, ◌∙◌, ap, sym, subst, List, false}
use Rattle.ospf_neighbour.specs.Neighbour.{NeighbourValue}
use Rattle.ospf_neighbour.specs.Neighbours.{AreNeighbours}
use Rattle.ospf_area.specs.declared.outbox.LinkContext.{LinkContext}
use Rattle.ospf_adjacency.specs.Heard.{Neighbourhood, neighbourhood, receive_hello}
use Rattle.ospf_adjacency.proofs.LinkSteps.NeighbourLemmas.{hello_stays}
use Rattle.ospf_adjacency.proofs.LinkSteps.WorkLemmas.{hello_back}
use Rattle.ospf_area.specs.Outboxes.{local_by}
use Rattle.ospf_adjacency.proofs.link_steps.hellos.hello_comes.Goals as goal
use Rattle.ospf_adjacency.proofs.link_steps.hellos.hello_comes.Goals.{In_ok-elects}

-- what the Hello has made of the link's neighbours
heard : (c : In_ok-elects) → neighbourhood c.receive_hello.new.neighbours.items c.in_ok-elects.elects c.receive_hello.new.outbox
    ≡ receive_hello c.args.link.now.iface (local_by c.args.own c.args.link.now.settings) c.args.from.router c.args.from.address c.args.hello.now c.args.named (neighbourhood c.args.link.now.neighbours false c.args.outbox.now)
heard c =
    let on = λ (a : LinkContext) (ns : List NeighbourValue). receive_hello a.iface a.local c.args.from.router c.args.from.address c.args.hello.now c.args.named (neighbourhood ns false c.args.outbox.now) in
    c.in_ok-elects.ensures
    ∙ ap (λ (a : LinkContext). on a c.take_out-all.result.items) c.of-at.ensures
    ∙ ap (λ (ns : List NeighbourValue). on (record { iface = c.args.link.now.iface; local = local_by c.args.own c.args.link.now.settings }) ns) c.take_out-all.ensures.neighbours

pub put_back-requires : goal.put_back-requires
put_back-requires c =
    let is = heard (goal.at.put_back-requires c).In_ok-elects in
    subst AreNeighbours (sym (ap (λ (x : Neighbourhood). x.neighbours) is))
    (hello_stays c.args.link.now.iface (local_by c.args.own c.args.link.now.settings) c.args.from.router c.args.from.address c.args.hello.now c.args.named
    (neighbourhood c.args.link.now.neighbours false c.args.outbox.now) c.take_out-all.ensures.rising c.requires.room)

pub returns : goal.returns
returns c =
    let back = hello_back c.args.own c.args.from c.args.hello.now c.args.named c.args.link.now c.take_out-all.new.link c.put_back.new.link c.receive_hello.new.neighbours.items c.in_ok-elects.elects c.is_due-due.result
    c.args.outbox.now c.receive_hello.new.outbox
    c.take_out-all.ensures.rest c.put_back.ensures c.is_due-due.ensures (heard (goal.at.returns c).In_ok-elects) in
    record { after = back.after_is; left = back.left_is }
