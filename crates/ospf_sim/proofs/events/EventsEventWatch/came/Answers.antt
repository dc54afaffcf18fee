use Rattle.std.proofs.Common.{◌∙◌, ap, refl, rules}
use Rattle.std.specs.Prelude.{max}
use Rattle.ospf_base.specs.declared.ids.RouterId.{RouterId}
use Rattle.ospf_sim.specs.Followed.{followed_in}
use Rattle.ospf_sim.proofs.EventFacts.{follows}
use Rattle.ospf_sim.proofs.events.EventsEventWatch.came.Goals as goal

pub returns : goal.returns
returns g c =
    let ticks = c.ticks_of.ensures ∙ ap (λ (q : RouterId). (followed_in c.follow-changes.new.routers.entries q).ticks) c.router-router.ensures in
    rw (← c.self.view_is)
    (follows _ _ _ _ _ _ _ c.router-router.result c.follow-changes.result c.router-router.ensures c.in-Some.is refl refl c.follow-changes.ensures.others c.follow-changes.ensures.seen
    c.follow-changes.ensures.ticks (c.max-self-inside.ensures ∙ ap (max c.self.inside.most_ticks) ticks) c.follow-changes.ensures.changes c.write.ensures.settings (search rules) c.write.ensures.begun c.write.ensures.cut
    c.write.ensures.unknown c.write.ensures.ended)
