use Rattle.ospf_graph.specs.EdgeLists.Listed.{advertisements_of}
use Rattle.ospf_whatif.proofs.EffectLemmas.{effect_made}
use Rattle.ospf_whatif.proofs.OutageLemmas.{stays_here}
use Rattle.std.proofs.Common.{refl}
use Rattle.ospf_whatif.proofs.root.changes_over.Goals as goal

pub returns : goal.returns
returns g c = λ root before over was.
    let A = advertisements_of c.args.listing.now in
    let o = c.args.outage.now in
    let at = rw (c.routes-routes.ensures.routes, c.deref-2.ensures.value) at c.in_ok-changes.ensures in
    let all = rw (c.routes-routes.ensures.routes, c.deref.ensures.value) at c.in_ok-places.ensures.all in
    effect_made o.failures.items A root c.args.table.now was c.in_ok-places.places.items c.in_ok-changes.changes.items
    (at A root (record { graph = c.requires.graph; outage_is = c.requires.outage; tree = over.now }) was.sound)
    (λ k r lt is not route. stays_here A o c.requires.outage root c.args.changed.now before (g.P.Paths.kept c.args.paths.now) over r.prefix (λ may. not (all k r lt is may)) r refl route)
