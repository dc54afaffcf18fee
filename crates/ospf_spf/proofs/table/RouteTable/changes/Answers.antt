use Rattle.std.proofs.Common.{◌↔◌, Contains}
use Rattle.ospf_graph.specs.declared.route.Route.{Route}
use Rattle.ospf_spf.specs.Changes.{IsNewRoute}
use Rattle.ospf_spf.specs.declared.changes.Change.TheVariants.{Put}
use Rattle.ospf_spf.proofs.ChangeLemmas.{puts_hops}
use Rattle.ospf_spf.proofs.table.RouteTable.changes.Goals as goal
use Rattle.ospf_spf.proofs.table.RouteTable.changes.Goals.{In_ok-changes}

puts : (c : In_ok-changes) → (route : Route) → Contains c.in_ok-changes.changes.items (Put route) ↔ IsNewRoute c.args.self.now c.args.to.now route
puts c route = rw (← c.routes.ensures.routes, ← c.routes-2.ensures.routes) (c.in_ok-changes.ensures.puts route)

pub returns-clause-puts : goal.returns-clause-puts
returns-clause-puts c = puts (goal.at.returns-clause-puts c).In_ok-changes

pub returns-clause-gone : goal.returns-clause-gone
returns-clause-gone c = λ prefix. rw (← c.routes.ensures.routes, ← c.routes-2.ensures.routes) (c.in_ok-changes.ensures.gone prefix)

pub returns-clause-have_hops : goal.returns-clause-have_hops
returns-clause-have_hops c = puts_hops c.args.self.now c.args.to.now c.in_ok-changes.changes.items c.routes-2.ensures.have_hops (puts (goal.at.returns-clause-have_hops c).In_ok-changes)
