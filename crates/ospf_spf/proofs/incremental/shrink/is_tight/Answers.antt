use Rattle.std.proofs.Common.{◌+◌, arith, refl}
use Rattle.ospf_spf.proofs.IncrementalSpf.GrowthSteps.{at_one}
use Rattle.ospf_spf.proofs.IncrementalSpf.ShrinkSteps.{not_equal}
use Rattle.ospf_spf.proofs.incremental.shrink.is_tight.Goals as goal

pub returns-in_default : goal.returns-in_default
returns-in_default c h d from to = c.in_default.ensures.none refl d from

pub returns-in_default-distance_of : goal.returns-in_default-distance_of
returns-in_default-distance_of c h d from to = c.in_default-distance_of.ensures.none refl _ to

pub returns : goal.returns
returns c h d from to =
    let first = at_one _ c.args.found.now.reached.items c.requires.places c.args.edge.from d c.in-Some.from from c.in-Some.ensures.some in
    let last = at_one _ c.args.found.now.reached.items c.requires.places c.args.edge.to (d + c.args.edge.cost) c.in-Some-distance_of.to to c.in-Some-distance_of.ensures.some in
    not_equal (c.in-Some.from + c.args.edge.cost) c.in-Some-distance_of.to h (omega arith)
