use Rattle.std.proofs.Common.{List, ap, subst, sym}
use Rattle.std.proofs.Common.{◌≢◌, ◌↔◌, IfOk, IsTrue}
use Rattle.ospf_base.specs.declared.ids.RouterId.{RouterId}
use Rattle.ospf_base.specs.declared.prefix.Prefix.{Prefix}
use Rattle.ospf_graph.specs.EdgeLists.Listed.{advertisements_of}
use Rattle.ospf_graph.specs.Routes.{IsTable}
use Rattle.ospf_graph.specs.declared.route.Route.{Route}
use Rattle.ospf_router.specs.Routes.{RoutesValue}
use Rattle.ospf_spf.specs.Spared.{SparesBut}
use Rattle.ospf_router.proofs.routes.KeptRoutes.turn.Goals as goal

pub returns-then-len-all-clause-changed : goal.returns-then-len-all-clause-changed
returns-then-len-all-clause-changed c =
    subst (λ (t : List Route). IfOk c.put.result (λ b. IsTrue b ↔ (c.put.new.self.table ≢ t))) (ap (λ (r : RoutesValue). r.table) c.self.view_is) c.put.ensures.changed

pub turn_table-requires : goal.turn_table-requires
turn_table-requires c =
    let t = c.requires.turned in
    let router = ap (λ (r : RoutesValue). r.router) c.self.view_is in
    let A = t.0 in
    let root = sym c.requires.root in
    let table = subst (λ (r : RouterId). IsTable A r c.self.inside.table) root (subst (λ (rs : List Route). IsTable A c.args.self.now.router rs) (sym (ap (λ (r : RoutesValue). r.table) c.self.view_is)) t.1) in
    let spares = subst (λ (r : RouterId). SparesBut c.args.grown.touched.items A (advertisements_of c.args.grown.tree.listing) r) root t.2 in
    (A, table, subst (λ (ps : List Prefix). SparesBut ps A (advertisements_of c.args.grown.tree.listing) c.args.grown.tree.root) (sym c.deref.ensures.value) spares)
