use Rattle.std.proofs.Common.{◌≡◌, ◌∙◌, ℕ, ap, arith, max}
use Rattle.rayon.specs.Lists.{chunks_of, chunks_size, chunks_slice}
use Rattle.rayon.proofs.ToStd.{slice-AllZip}
use Rattle.ospf_graph.specs.EdgeLists.Listed.{advertisements_of}
use Rattle.ospf_failures.specs.Overall.{AreSeenAt}
use Rattle.ospf_harm.proofs.FoundLemmas.{IsFound, all_found}
use Rattle.ospf_failures.proofs.roots.pieces_in_threads.Goals as goal

pub returns : goal.returns
returns g c =
    let R = AreSeenAt (advertisements_of c.args.at.0.now) c.args.detail c.args.outages.now in
    let size = c.args.size in
    let some = c.requires.size in
    let one : max size 1 ≡ size = omega (arith, some) in
    let groups =
    ap (λ it. chunks_of (max (chunks_size it) 1) (chunks_slice it)) (ap (λ m. m.base) c.map.ensures.base ∙ c.with_min_len.ensures.base)
    ∙ (λ i. chunks_of (max (c.par_chunks.ensures.size i) 1) (c.par_chunks.ensures.slice i)) ∙ ap (λ (n : ℕ). chunks_of n c.args.roots.now) one in
    let chain = rw c.map.ensures.f at c.in_ok-collect.ensures in
    let each_found = slice-AllZip chain.1.0 (chunks_of size c.args.roots.now) (chain.1.1 ∙ groups) (IsFound R) chain.0 chain.1.2 in
    all_found R (chunks_of size c.args.roots.now) chain.0 c.in_ok-collect.field-0 each_found chain.2
