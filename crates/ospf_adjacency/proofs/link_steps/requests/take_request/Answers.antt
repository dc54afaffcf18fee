use Rattle.std.proofs.Common.{ap, sym, ◌∙◌}
use Rattle.ospf_adjacency.specs.LinkSteps.Parts.{answered_on, request_part}
use Rattle.ospf_adjacency.specs.LinkSteps.Repeats.{marked_all}
use Rattle.ospf_area.specs.Sending.{context_of}
use Rattle.ospf_area.specs.State.{AreaValue}
use Rattle.ospf_adjacency.proofs.LinkSteps.WorkLemmas.{works_nowhere, is_past}
use Rattle.ospf_adjacency.proofs.link_steps.requests.take_request.Goals as goal

pub returns-in-None : goal.returns-in-None
returns-in-None c =
    let s = c.args.area.now in
    let none = is_past c.area.inside.links.items s.links c.args.from.link c.get_mut.result (sym (ap (λ (s : AreaValue). s.links) c.area.view_is)) c.in-None.is c.get_mut.follows.1.1.0 in
    works_nowhere (request_part (context_of s) c.args.from s.database c.args.requests s.next_dd) c.args.from.link _ _ c.args.out.now none
    (c.area.view_is ∙ ap (λ o. record s { sent = marked_all (answered_on o c.args.from.router s.database c.args.requests) s.sent }) (sym none))
