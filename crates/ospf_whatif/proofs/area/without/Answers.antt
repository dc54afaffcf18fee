use Rattle.std.proofs.Common.{◌∙◌, List, subst, sym}
use Rattle.ospf_graph.specs.EdgeLists.Listed.{advertisements_of}
use Rattle.ospf_lsa.specs.declared.link.Link.{Link}
use Rattle.ospf_whatif.specs.Failure.{inner_of}
use Rattle.ospf_whatif.specs.Subnets.{HaveSame}
use Rattle.ospf_whatif.proofs.SubnetLemmas.{bytes_same, large_same, listing_same, small_same}
use Rattle.ospf_whatif.proofs.WithoutLemmas.{IfOk-map, OnOk-map}
use Rattle.ospf_whatif.proofs.area.without.Goals as goal

abbrev same : (c : goal.After-drop-inner) → HaveSame c.deref.result.now (inner_of c.args.failure.now (advertisements_of c.args.listing.now))
same c = subst (λ (l : List Link). HaveSame l (inner_of c.args.failure.now (advertisements_of c.args.listing.now))) (sym c.deref.ensures.value) c.in_ok-inner.ensures

pub returns-clause-left : goal.returns-clause-left
returns-clause-left c =
    IfOk-map c.without_taken.result _ _ c.without_taken.ensures.left
    (λ left is. is ∙ listing_same c.deref.result.now c.args.failure.now (advertisements_of c.args.listing.now) (same c))

pub returns-clause-bytes : goal.returns-clause-bytes
returns-clause-bytes c =
    IfOk-map c.without_taken.result _ _ c.without_taken.ensures.bytes
    (λ left are. bytes_same c.deref.result.now c.args.failure.now (advertisements_of c.args.listing.now) (same c) c.args.listing.now left are)

pub returns-clause-large : goal.returns-clause-large
returns-clause-large c = λ is. large_same c.deref.result.now c.args.failure.now (advertisements_of c.args.listing.now) (same c) (c.without_taken.ensures.large is)

pub returns-clause-small : goal.returns-clause-small
returns-clause-small c =
    OnOk-map c.without_taken.result _ _ c.without_taken.ensures.small (small_same c.deref.result.now c.args.failure.now (advertisements_of c.args.listing.now) (same c))
