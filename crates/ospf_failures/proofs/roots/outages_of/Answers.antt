use Rattle.std.proofs.Common.{◌∙◌, ap}
use Rattle.rayon.proofs.ToStd.{slice-AllZip}
use Rattle.ospf_graph.specs.EdgeLists.Listed.{advertisements_of}
use Rattle.ospf_failures.specs.Overall.{IsOutageOf}
use Rattle.ospf_harm.proofs.FoundLemmas.{IsFound, all_found}
use Rattle.ospf_failures.proofs.roots.outages_of.Goals as goal

pub collect-requires-clause-ready : goal.collect-requires-clause-ready
collect-requires-clause-ready g c κs within =
    let slice = ap (λ it. it.slice.now) (ap (λ m. m.base) c.map.ensures.base ∙ c.with_min_len.ensures.base) ∙ c.par_iter.ensures in
    rw c.map.ensures.f (rw slice (λ k d lt x is. ((c.requires.graph, rw is (c.requires.small k d lt)), λ y post. tt)))

pub returns : goal.returns
returns g c =
    let R = IsOutageOf (advertisements_of c.args.listing.now) in
    let slice = ap (λ it. it.slice.now) (ap (λ m. m.base) c.map.ensures.base ∙ c.with_min_len.ensures.base) ∙ c.par_iter.ensures in
    let chain = rw c.map.ensures.f at c.in_ok-collect.ensures in
    let each_found = slice-AllZip chain.1.0 c.args.breakdowns.now (chain.1.1 ∙ slice) (IsFound R) chain.0 chain.1.2 in
    all_found R c.args.breakdowns.now chain.0 c.in_ok-collect.field-0 each_found chain.2
