use Rattle.std.proofs.Common.{subst}
use Rattle.ospf_graph.specs.Routes.{IsTable}
use Rattle.ospf_world.specs.Walks.{adverts}
use Rattle.ospf_world.proofs.RunsFacts.{Facts-new, Facts-run}
use Rattle.ospf_world.proofs.laws.tables_are_exact.Goals as goal

pub returns : goal.returns
returns c is_dropped events start end r x new run at =
    let facts = Facts-run is_dropped events start end (Facts-new start new) run in
    subst (λ q. IsTable (adverts x) q x.table) (facts.router r x at) (facts.tables r x at).is_table
