use Rattle.std.proofs.Common.{◌≡◌, ◌+◌, arith, inl, sym, ◌∙◌}
use Rattle.ospf_spf.proofs.IncrementalSpf.GrowthSteps.{at_one}
use Rattle.ospf_graph.proofs.ReachedLemmas.{settled_at}
use Rattle.ospf_spf.proofs.incremental.grow.relax.Goals as goal

pub returns-then-near-way-clause-relaxed : goal.returns-then-near-way-clause-relaxed
returns-then-near-way-clause-relaxed c same =
    let at = settled_at _ c.args.found.now.reached.items c.requires.places c.args.edge.to c.in-Some.to (sym c.place_of.ensures ∙ c.in-Some.is) c.index.result.now c.index.ensures in
    inl (c.index.result.now.distance, (let lt = c.if-near-way.true in omega arith), at)

pub relax_nearer-requires-clause-farther : goal.relax_nearer-requires-clause-farther
relax_nearer-requires-clause-farther c j there =
    let at = settled_at _ c.args.found.now.reached.items c.requires.places c.args.edge.to c.in-Some.to (sym c.place_of.ensures ∙ c.in-Some.is) c.index.result.now c.index.ensures in
    let same = at_one _ c.args.found.now.reached.items c.requires.places c.args.edge.to j _ there at in
    let lt = c.if-way-near.true in
    omega arith

pub relax_level-requires-clause-level : goal.relax_level-requires-clause-level
relax_level-requires-clause-level c =
    let at = settled_at _ c.args.found.now.reached.items c.requires.places c.args.edge.to c.in-Some.to (sym c.place_of.ensures ∙ c.in-Some.is) c.index.result.now c.index.ensures in
    let level : c.args.distance + c.args.edge.cost ≡ c.index.result.now.distance = (let a = c.if-near-way.false in let b = c.if-way-near.false in omega arith) in
    rw level at
