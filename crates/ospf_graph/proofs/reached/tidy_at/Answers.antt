use Rattle.std.proofs.Common.{ap, sym, ◌∙◌, subst}
use Rattle.std.proofs.lemmas.List.{get_or_default}
use Rattle.ospf_graph.specs.Reached.{AreSameStarts}
use Rattle.ospf_graph.proofs.ReachedLemmas.{settled_of-set}
use Rattle.ospf_graph.proofs.SameStarts.{same_set}
use Rattle.ospf_graph.proofs.reached.tidy_at.Goals as goal

pub returns-clause-settled : goal.returns-clause-settled
returns-clause-settled c =
    settled_of-set c.args.reached.now.items c.args.place c.tidy.new.one
    (λ d lt. ap (λ r. r.vertex) (get_or_default c.args.reached.now.items c.args.place d _ lt ∙ sym c.index_mut.ensures.value) ∙ sym c.tidy.ensures.vertex)
    (λ d lt. ap (λ r. r.distance) (get_or_default c.args.reached.now.items c.args.place d _ lt ∙ sym c.index_mut.ensures.value) ∙ sym c.tidy.ensures.distance)

pub returns-clause-starts : goal.returns-clause-starts
returns-clause-starts c =
    same_set c.args.reached.now.items c.args.place c.tidy.new.one c.requires
    (λ d. ap (λ r. r.vertex) (get_or_default c.args.reached.now.items c.args.place d _ c.requires ∙ sym c.index_mut.ensures.value) ∙ sym c.tidy.ensures.vertex)
    (λ d. subst (λ r. AreSameStarts r.starts.items c.tidy.new.one.starts.items)
    (c.index_mut.ensures.value ∙ get_or_default c.args.reached.now.items c.args.place _ d c.requires) c.tidy.ensures.starts)
