use Rattle.std.proofs.Common.{IfOk, subst, sym}
use Rattle.ospf_base.specs.declared.ids.RouterId.{RouterId}
use Rattle.ospf_graph.specs.EdgeLists.Listed.{advertisements_of}
use Rattle.ospf_graph.specs.Routes.{IsTable}
use Rattle.ospf_whatif.specs.Effect.{IsEffectIn}
use Rattle.ospf_whatif.specs.Failure.{without_all}
use Rattle.ospf_failures.proofs.overall.effect_at.Goals as goal

pub effect-requires-clause-table : goal.effect-requires-clause-table
effect-requires-clause-table c =
    subst (λ (r : RouterId). IsTable (advertisements_of c.args.listing.now) r c.args.before.now.table) (sym c.requires.before.root_is) c.requires.before.table

pub returns : goal.returns
returns c =
    subst (λ (r : RouterId). IfOk c.effect.result (λ changes. IsEffectIn (without_all c.args.outage.now.failures.items (advertisements_of c.args.listing.now)) r c.args.before.now.table changes.items))
    c.requires.before.root_is c.effect.ensures
