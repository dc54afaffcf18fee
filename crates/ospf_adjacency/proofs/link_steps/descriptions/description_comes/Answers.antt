use Rattle.std.proofs.Common.{◌≡◌, ◌∙◌, ap, sym, subst, List, false}
use Rattle.ospf_neighbour.specs.Neighbour.{NeighbourValue}
use Rattle.ospf_neighbour.specs.Neighbours.{AreNeighbours}
use Rattle.ospf_area.specs.declared.outbox.LinkContext.{LinkContext}
use Rattle.ospf_adjacency.specs.Heard.{Neighbourhood, neighbourhood}
use Rattle.ospf_adjacency.specs.LinkSteps.Parts.{description_on}
use Rattle.ospf_adjacency.proofs.LinkSteps.WorkLemmas.{described_stays, description_back}
use Rattle.ospf_area.specs.Outboxes.{local_by}
use Rattle.ospf_adjacency.proofs.link_steps.descriptions.description_comes.Goals as goal
use Rattle.ospf_adjacency.proofs.link_steps.descriptions.description_comes.Goals.{In_ok-elects}

-- what the Database Description has made of the link's neighbours
described : (c : In_ok-elects) → neighbourhood c.describe_in.new.all.items c.in_ok-elects.elects c.describe_in.new.outbox
    ≡ description_on c.args.link.now.iface (local_by c.args.own c.args.link.now.settings) c.args.from.router c.args.fields c.args.headers c.args.database.now (neighbourhood c.args.link.now.neighbours false c.args.outbox.now)
described c =
    let on = λ (a : LinkContext) (ns : List NeighbourValue). description_on a.iface a.local c.args.from.router c.args.fields c.args.headers c.args.database.now (neighbourhood ns false c.args.outbox.now) in
    c.in_ok-elects.ensures
    ∙ ap (λ (a : LinkContext). on a c.take_out-all.result.items) c.of-at.ensures
    ∙ ap (λ (ns : List NeighbourValue). on (record { iface = c.args.link.now.iface; local = local_by c.args.own c.args.link.now.settings }) ns) c.take_out-all.ensures.neighbours

pub put_back-requires : goal.put_back-requires
put_back-requires c =
    let is = described (goal.at.put_back-requires c).In_ok-elects in
    subst AreNeighbours (sym (ap (λ (x : Neighbourhood). x.neighbours) is))
    (described_stays c.args.link.now.iface (local_by c.args.own c.args.link.now.settings) c.args.from.router c.args.fields c.args.headers c.args.database.now
    (neighbourhood c.args.link.now.neighbours false c.args.outbox.now) c.take_out-all.ensures.rising)

pub returns : goal.returns
returns c =
    let back = description_back c.args.own c.args.from c.args.fields c.args.headers c.args.database.now c.args.link.now c.take_out-all.new.link c.put_back.new.link c.describe_in.new.all.items c.in_ok-elects.elects c.is_due-due.result
    c.args.outbox.now c.describe_in.new.outbox
    c.take_out-all.ensures.rest c.put_back.ensures c.is_due-due.ensures (described (goal.at.returns c).In_ok-elects) in
    record { after = back.after_is; left = back.left_is }
