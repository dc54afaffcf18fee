use Rattle.std.proofs.Common.{◌∙◌, ap, sym, refl, is_some}
use Rattle.std.proofs.lemmas.Result.{on_ok_weaker}
use Rattle.ospf_area.specs.State.{AreaValue}
use Rattle.ospf_adjacency.proofs.LinkSteps.WorkLemmas.{is_there, is_past}
use Rattle.ospf_adjacency.proofs.LinkSteps.ElectionLemmas.{elects_some, elects_none}
use Rattle.ospf_adjacency.proofs.link_steps.elections.elect_at.Goals as goal

pub elect_link-requires : goal.elect_link-requires
elect_link-requires c =
    c.requires c.args.number c.in-Some.link.now
    (is_there c.area.inside.links.items c.args.area.now.links c.args.number c.in-Some.link.now (sym (ap (λ (s : AreaValue). s.links) c.area.view_is))
    (ap is_some (sym c.in-Some.is) ∙ c.get_mut.follows.1.1.0) c.in-Some.ensures.value)

pub returns-in-Some : goal.returns-in-Some
returns-in-Some c =
    on_ok_weaker c.elect_link.result
    (λ e. elects_some c.args.area.now _ _ c.args.out.now c.elect_link.new.out c.args.number c.in-Some.link.now c.elect_link.new.link c.elect_link.new.next c.context_of-own.result e.0
    c.area.view_is
    (is_there c.area.inside.links.items c.args.area.now.links c.args.number c.in-Some.link.now (sym (ap (λ (s : AreaValue). s.links) c.area.view_is))
    (ap is_some (sym c.in-Some.is) ∙ c.get_mut.follows.1.1.0) c.in-Some.ensures.value)
    c.context_of-own.ensures e.1 refl e.2)
    c.elect_link.ensures

pub returns-in-None : goal.returns-in-None
returns-in-None c =
    elects_none c.args.area.now _ c.args.out.now c.args.number c.area.view_is
    (is_past c.area.inside.links.items c.args.area.now.links c.args.number c.get_mut.result (sym (ap (λ (s : AreaValue). s.links) c.area.view_is)) c.in-None.is c.get_mut.follows.1.1.0)
