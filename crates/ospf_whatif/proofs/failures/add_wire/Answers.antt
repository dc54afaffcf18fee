use Rattle.std.proofs.Common.{◌≡◌, subst}
use Rattle.ospf_graph.specs.EdgeLists.Listed.{advertisements_of}
use Rattle.ospf_whatif.specs.Single.{IsLongestOf, IsShared, IsWireAt}
use Rattle.ospf_whatif.specs.declared.failure.AreaFailure.TheVariants.{Link}
use Rattle.ospf_graph.proofs.EdgeLists.AddsLemmas.{adds_as, adds_none}
use Rattle.ospf_whatif.proofs.SingleLemmas.{one_wire}
use Rattle.ospf_whatif.proofs.failures.add_wire.Goals as goal

pub returns-in_ok-add_failure-in-Some : goal.returns-in_ok-add_failure-in-Some
returns-in_ok-add_failure-in-Some c =
    let A = advertisements_of c.args.listing.now in
    let a = c.args.a in
    let b = c.args.b in
    adds_as (λ f. f ≡ Link a b c.in-Some.subnet) (IsWireAt A a b c.args.address) _ _
    (one_wire A a b c.args.address c.in-Some.subnet (subst (λ o. IsLongestOf (IsShared A a b c.args.address) o) c.in-Some.is c.in_ok-subnet.ensures))
    c.in_ok-add_failure-in-Some.ensures

pub returns-in-None : goal.returns-in-None
returns-in-None c =
    let A = advertisements_of c.args.listing.now in
    let P = IsShared A c.args.a c.args.b c.args.address in
    adds_none (IsWireAt A c.args.a c.args.b c.args.address) c.args.failures.now.items
    (λ f w. subst (λ o. IsLongestOf P o) c.in-None.is c.in_ok-subnet.ensures w.0 w.1.0)
