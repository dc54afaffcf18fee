use Rattle.std.proofs.Common.{List, ap, subst, sym, ◌∙◌}
use Rattle.ospf_graph.specs.EdgeLists.Listed.{advertisements_of}
use Rattle.ospf_graph.specs.Advertisements.{Advertisement}
use Rattle.ospf_whatif.specs.Failure.{HasLarge, without_all}
use Rattle.ospf_whatif.proofs.WithoutLemmas.{IfOk-map, small_without}
use Rattle.ospf_whatif.proofs.area.without_more.Goals as goal

pub without_all-requires : goal.without_all-requires
without_all-requires c = λ some.
    subst (λ (a : List Advertisement). HasLarge a → ⊥) (sym c.in_ok-left.ensures.left) (small_without c.args.first.now (advertisements_of c.args.listing.now) c.requires)

pub returns : goal.returns
returns c = IfOk-map c.without_all.result _ _ c.without_all.ensures.left (λ left is. is ∙ ap (λ (a : List Advertisement). without_all c.args.rest.now a) c.in_ok-left.ensures.left)
