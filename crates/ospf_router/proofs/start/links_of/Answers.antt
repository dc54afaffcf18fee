use Rattle.std.proofs.Common.{◌+◌, take, subst, sym, List}
use Rattle.ospf_area.specs.State.{LinkValue}
use Rattle.ospf_router.specs.Starts.{AreLinksOf}
use Rattle.ospf_router.proofs.StartLemmas.{next_link}
use Rattle.ospf_router.proofs.start.links_of.Goals as goal

pub loop-interface-preserved : goal.loop-interface-preserved
loop-interface-preserved c =
    subst (λ (ls : List LinkValue). AreLinksOf c.args.router (take (c.loop-interface.interface-index + 1) c.args.interfaces.now) ls) (sym c.in_ok-push.ensures.items)
    (next_link c.args.router c.args.interfaces.now c.loop-interface.interface-index c.interface-item.result c.loop-interface.links.items c.link_of.result c.loop-interface-test.true c.interface-item.is c.loop-interface.invariant c.link_of.ensures)
