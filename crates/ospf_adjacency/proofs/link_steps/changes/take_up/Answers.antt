use Rattle.std.proofs.Common.{◌∙◌, ap, sym, is_some, Option}
use Rattle.std.proofs.lemmas.Result.{on_ok_weaker}
use Rattle.ospf_area.specs.Sending.{and_sends, context_of}
use Rattle.ospf_area.specs.State.{AreaValue, LinkValue}
use Rattle.ospf_area.specs.declared.sending.RouterContext.{RouterContext}
use Rattle.ospf_adjacency.specs.LinkSteps.Parts.{link_up}
use Rattle.ospf_adjacency.proofs.LinkSteps.Words.{up_packets}
use Rattle.ospf_area.specs.Outboxes.{posted_all}
use Rattle.ospf_adjacency.specs.LinkSteps.Works.{up_out_on}
use Rattle.ospf_adjacency.proofs.LinkSteps.WorkLemmas.{is_past, is_there, up_unsent}
use Rattle.ospf_adjacency.proofs.link_steps.changes.take_up.Goals as goal
use Rattle.ospf_adjacency.proofs.link_steps.changes.take_up.Goals.{in-Some, in-None}

pub returns-clause-sent : goal.returns-clause-sent
returns-clause-sent c =
    elim c.match-get_mut.branch [
      | in-Some w ↦
          rw (w.result-is, w.out-is)
          (on_ok_weaker w.link_goes_up.result
          (λ e.
          e ∙ ap (λ (own : RouterContext). and_sends c.args.out.now (posted_all own c.args.number (link_up w.in-Some.link.now).iface (up_packets w.in-Some.link.now))) c.context_of-own.ensures
          ∙ ap (λ (o : Option LinkValue). and_sends c.args.out.now (up_out_on o (context_of c.args.area.now) c.args.number))
          (sym (is_there c.area.inside.links.items c.args.area.now.links c.args.number w.in-Some.link.now (sym (ap (λ (s : AreaValue). s.links) c.area.view_is))
          (ap is_some (sym w.in-Some.is) ∙ c.get_mut.follows.1.1.0) w.in-Some.ensures.value)))
          w.link_goes_up.ensures.sent)
      | in-None w ↦
          rw (w.result-is, w.out-is)
          (up_unsent c.args.area.now.links c.args.number (context_of c.args.area.now) c.args.out.now
          (is_past c.area.inside.links.items c.args.area.now.links c.args.number c.get_mut.result (sym (ap (λ (s : AreaValue). s.links) c.area.view_is)) w.in-None.is c.get_mut.follows.1.1.0))
    ]
