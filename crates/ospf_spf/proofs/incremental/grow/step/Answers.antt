use Rattle.std.proofs.Common.{◌≡◌, ◌++◌, ◌∷◌, [], subst, sym}
use Rattle.ospf_spf.specs.IncrementalSpf.Growth.{Pays, SparesIn}
use Rattle.ospf_spf.proofs.IncrementalSpf.GrowthSteps.{near_better, pays_better, pays_same, spares_better, spares_same}
use Rattle.ospf_spf.proofs.incremental.grow.step.Goals as goal

pub offer_all-requires-clause-near : goal.offer_all-requires-clause-near
offer_all-requires-clause-near c =
    near_better c.args.edge c.args.distance c.args.found.now.reached.items _ (c.in_ok-relax.ensures.improves c.if-branch.true) c.requires.near c.requires.small

pub returns-in_ok-push-clause-pays : goal.returns-in_ok-push-clause-pays
returns-in_ok-push-clause-pays c =
    pays_better c.args.edges.now c.edges_from.result.now c.args.edge c.args.found.now.reached.items c.relax.new.found.reached.items _ _ c.args.distance
    (c.in_ok-relax.ensures.improves c.if-branch.true) c.in_ok-offer_all.ensures c.edges_from.ensures.part c.edges_from.ensures.same

pub returns-in_ok-push-clause-near : goal.returns-in_ok-push-clause-near
returns-in_ok-push-clause-near c =
    near_better c.args.edge c.args.distance c.args.found.now.reached.items _ (c.in_ok-relax.ensures.improves c.if-branch.true) c.requires.near c.requires.small

pub returns-else-branch-clause-pays : goal.returns-else-branch-clause-pays
returns-else-branch-clause-pays c =
    subst (λ f. Pays c.args.edges.now c.args.edge c.args.found.now f c.args.waits.now c.args.waits.now)
    (sym (c.in_ok-relax.ensures.same c.if-branch.false))
    (pays_same c.args.edges.now c.args.edge c.args.found.now.reached.items c.args.waits.now.list c.args.distance c.requires.at (c.in_ok-relax.ensures.relaxed c.if-branch.false))

pub returns-in_ok-push-clause-spares : goal.returns-in_ok-push-clause-spares
returns-in_ok-push-clause-spares c =
    let last : c.push.new.self.items ≡ c.args.changed.now.items ++ c.args.edge.to ∷ [] = (let is = c.in_ok-push.ensures.items in search) in
    subst (λ l. SparesIn l c.args.found.now c.relax.new.found) (sym last)
    (spares_better c.args.changed.now.items c.args.edge c.args.distance c.args.found.now.reached.items _ (c.in_ok-relax.ensures.improves c.if-branch.true))

pub returns-else-branch-clause-spares : goal.returns-else-branch-clause-spares
returns-else-branch-clause-spares c =
    subst (λ f. SparesIn c.args.changed.now.items c.args.found.now f) (sym (c.in_ok-relax.ensures.same c.if-branch.false))
    (spares_same c.args.changed.now.items c.args.found.now.reached.items)
