use Rattle.std.proofs.Common.{◌≡◌, ◌+◌, ◌==◌, arith, eq-eqb}
use Rattle.ospf_whatif.proofs.OutageLemmas.{false_true, some_one}
use Rattle.ospf_whatif.proofs.root.is_last.Goals as goal

pub returns-in_default : goal.returns-in_default
returns-in_default c h d from to = let is = (c.in_default.ensures.distance d).1 from in cc

pub returns-in_default-distance_of : goal.returns-in_default-distance_of
returns-in_default-distance_of c h d from to = let is = (c.in_default-distance_of.ensures.distance (d + c.args.edge.now.cost)).1 to in cc

pub returns : goal.returns
returns c h d from to =
    let first = (c.in-Some.ensures.distance d).1 from in
    let last = (c.in-Some-distance_of.ensures.distance (d + c.args.edge.now.cost)).1 to in
    let a : c.in-Some.from ≡ d = some_one _ _ first in
    let b : c.in-Some-distance_of.to ≡ d + c.args.edge.now.cost = some_one _ _ last in
    let same : c.in-Some.from + c.args.edge.now.cost ≡ c.in-Some-distance_of.to = omega (arith, a, b) in
    false_true (c.in-Some.from + c.args.edge.now.cost == c.in-Some-distance_of.to) h (eq-eqb _ _ same)
