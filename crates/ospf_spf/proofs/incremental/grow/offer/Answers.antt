use Rattle.std.proofs.Common.{arith, inl, refl}
use Rattle.ospf_spf.specs.IncrementalSpf.Growth.{IsAt, HasStart}
use Rattle.ospf_spf.proofs.IncrementalSpf.GrowthSteps.{at_one, offers_none, offers_one}
use Rattle.ospf_spf.proofs.incremental.grow.offer.Goals as goal

pub returns-in_default : goal.returns-in_default
returns-in_default c = offers_none c.args.edge (IsAt c.args.found.now.reached.items) (HasStart c.args.found.now.reached.items) c.args.waits.now.list (λ d at. absurd (c.in_default.ensures.none refl d at))

pub returns-then-is_nearer : goal.returns-then-is_nearer
returns-then-is_nearer c =
    offers_none c.args.edge (IsAt c.args.found.now.reached.items) (HasStart c.args.found.now.reached.items) c.args.waits.now.list
    (λ d at.
    let near = c.is_nearer.ensures c.if-is_nearer.true in
    let same = at_one _ c.args.found.now.reached.items c.requires.places c.args.edge.from d c.in-Some.distance at c.in-Some.ensures.some in
    inl (near.0, (let lt = near.1 in omega arith), near.2))

pub returns : goal.returns
returns c = offers_one (record { distance = _; edge = c.args.edge }) (IsAt c.args.found.now.reached.items) (HasStart c.args.found.now.reached.items) c.args.waits.now.list _ c.in_ok-push.ensures.added
