use Rattle.std.proofs.Common.{◌≡◌, ◌≢◌, ◌↔◌, Bool, List, Option, IfNone, IfOk, IsTrue, subst}
use Rattle.ospf_graph.specs.declared.route.Route.{Route}
use Rattle.ospf_router.proofs.routes.KeptRoutes.go_on.Goals as goal

pub returns-in-None-clause-changed : goal.returns-in-None-clause-changed
returns-in-None-clause-changed c =
    let before = c.grow.new.self.table in
    let same = subst (λ (o : Option Bool). IfNone o (before ≡ c.args.self.now.table)) c.in-None.is c.in_ok-changed.ensures.kept in
    subst (λ (t : List Route). IfOk c.refresh.result (λ b. IsTrue b ↔ (c.refresh.new.self.table ≢ t))) same c.refresh.ensures.changed
