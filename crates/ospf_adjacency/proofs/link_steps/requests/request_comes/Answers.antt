use Rattle.std.proofs.Common.{◌≡◌, ◌∙◌, ◌||◌, ap, sym, subst, ℕ, Bool, List, [], false, rules}
use Rattle.ospf_neighbour.specs.Neighbour.{NeighbourValue}
use Rattle.ospf_neighbour.specs.Neighbours.{AreNeighbours}
use Rattle.ospf_area.specs.declared.outbox.LinkContext.{LinkContext}
use Rattle.ospf_adjacency.specs.Heard.{Neighbourhood, neighbourhood}
use Rattle.ospf_area.specs.State.{LinkValue}
use Rattle.ospf_adjacency.specs.LinkSteps.Parts.{request_at, request_on}
use Rattle.ospf_adjacency.proofs.LinkSteps.RequestLemmas.{requested_stays}
use Rattle.ospf_adjacency.proofs.LinkSteps.WorkLemmas.{PutBack, request_back}
use Rattle.ospf_area.specs.Outboxes.{local_by}
use Rattle.ospf_adjacency.proofs.link_steps.requests.request_comes.Goals as goal
use Rattle.ospf_adjacency.proofs.link_steps.requests.request_comes.Goals.{In_ok-keys}

-- what the Request has made of the link's neighbours
requested : (c : In_ok-keys) → neighbourhood c.answer_in.new.all.items false c.answer_in.new.outbox
    ≡ request_on c.args.link.now.iface (local_by c.args.own c.args.link.now.settings) c.args.from.router c.args.link.now.settings.transmit_delay c.args.database.now c.args.requests (neighbourhood c.args.link.now.neighbours false c.args.outbox.now)
requested c =
    let on = λ (a : LinkContext) (delay : ℕ) (ns : List NeighbourValue). request_on a.iface a.local c.args.from.router delay c.args.database.now c.args.requests (neighbourhood ns false c.args.outbox.now) in
    let delay = c.args.link.now.settings.transmit_delay in
    c.in_ok-keys.ensures.turn
    ∙ ap (λ (l : LinkValue). on c.of-at.result l.settings.transmit_delay c.take_out-all.result.items) c.link.view_is
    ∙ ap (λ (a : LinkContext). on a delay c.take_out-all.result.items) c.of-at.ensures
    ∙ ap (λ (ns : List NeighbourValue). on (record { iface = c.args.link.now.iface; local = local_by c.args.own c.args.link.now.settings }) delay ns) c.take_out-all.ensures.neighbours

pub put_back-requires : goal.put_back-requires
put_back-requires c =
    let is = requested (goal.at.put_back-requires c).In_ok-keys in
    subst AreNeighbours (sym (ap (λ (x : Neighbourhood). x.neighbours) is))
    (requested_stays c.args.link.now.iface (local_by c.args.own c.args.link.now.settings) c.args.from.router c.args.link.now.settings.transmit_delay c.args.database.now c.args.requests
    (neighbourhood c.args.link.now.neighbours false c.args.outbox.now) c.take_out-all.ensures.rising)

back : (c : In_ok-keys) (bare after : LinkValue) (due : Bool) → bare ≡ record c.args.link.now { neighbours = [] }
    → after ≡ record bare { neighbours = c.answer_in.new.all.items; elects = due } → due ≡ bare.elects || false
    → PutBack (request_at c.args.own c.args.from c.args.database.now c.args.requests c.args.outbox.now c.args.link.now) c.args.link.now after c.answer_in.new.outbox
back c bare after due is_bare is_after is_due =
    request_back c.args.own c.args.from c.args.database.now c.args.requests c.args.link.now bare after c.answer_in.new.all.items due c.args.outbox.now c.answer_in.new.outbox is_bare is_after is_due (requested c)

pub returns-clause-after : goal.returns-clause-after
returns-clause-after c =
    (back (goal.at.returns-clause-after c).In_ok-keys c.take_out-all.new.link c.put_back.new.link _ c.take_out-all.ensures.rest c.put_back.ensures (search rules)).after_is

pub returns-clause-left : goal.returns-clause-left
returns-clause-left c =
    (back (goal.at.returns-clause-left c).In_ok-keys c.take_out-all.new.link c.put_back.new.link _ c.take_out-all.ensures.rest c.put_back.ensures (search rules)).left_is
