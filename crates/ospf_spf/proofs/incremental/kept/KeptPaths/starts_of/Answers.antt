use Rattle.std.proofs.Common.{◌↔◌, ap, subst}
use Rattle.std.specs.List.{Contains}
use Rattle.ospf_spf.specs.IncrementalSpf.Growth.{HasStart}
use Rattle.ospf_spf.specs.IncrementalSpf.Kept.{IsKeptTree}
use Rattle.ospf_graph.specs.Search.{StartsIn}
use Rattle.ospf_spf.proofs.incremental.kept.KeptPaths.starts_of.Goals as goal

pub returns-clause-starts : goal.returns-clause-starts
returns-clause-starts c x =
    let told : Contains c.starts_of.result.now x ↔ HasStart c.self.inside.found.reached.items c.args.vertex x = (let is = c.starts_of.ensures x in search) in
    subst (λ l. Contains c.starts_of.result.now x ↔ StartsIn l c.args.vertex x) (ap (λ v. v.starts) c.self.view_is) told

pub returns-clause-tree : goal.returns-clause-tree
returns-clause-tree c = subst (λ k. IsKeptTree k) c.self.view_is c.self.invariant.tree
