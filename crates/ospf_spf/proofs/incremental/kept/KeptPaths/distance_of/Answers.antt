use Rattle.std.proofs.Common.{◌≡◌, ◌↔◌, Some, ap, subst}
use Rattle.std.specs.Prelude.{IfSome}
use Rattle.ospf_spf.specs.IncrementalSpf.Growth.{IsAt}
use Rattle.ospf_spf.specs.IncrementalSpf.Kept.{IsKeptTree}
use Rattle.ospf_graph.specs.Search.{AtIn}
use Rattle.ospf_spf.proofs.IncrementalSpf.KeptGrowth.{near_some, told_distance}
use Rattle.ospf_spf.proofs.incremental.kept.KeptPaths.distance_of.Goals as goal

pub returns-clause-distance : goal.returns-clause-distance
returns-clause-distance c d =
    let some : IfSome c.distance_of.result (λ d. IsAt c.self.inside.found.reached.items c.args.vertex d) = (let is = c.distance_of.ensures.some in search) in
    subst (λ l. (c.distance_of.result ≡ Some d) ↔ AtIn l c.args.vertex d) (ap (λ v. v.settled) c.self.view_is)
    (told_distance _ c.self.inside.found.reached.items c.self.invariant.places c.args.vertex c.distance_of.result some c.distance_of.ensures.none d)

pub returns-clause-near : goal.returns-clause-near
returns-clause-near c = near_some c.self.inside.found.reached.items c.self.invariant.near _ c.distance_of.result c.distance_of.ensures.some

pub returns-clause-tree : goal.returns-clause-tree
returns-clause-tree c = subst (λ k. IsKeptTree k) c.self.view_is c.self.invariant.tree
