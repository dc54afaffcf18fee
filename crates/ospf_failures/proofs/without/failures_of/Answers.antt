use Rattle.std.proofs.Common.{List, subst, sym}
use Rattle.std.specs.List.{AllZip}
use Rattle.ospf_graph.specs.EdgeLists.Listed.{advertisements_of}
use Rattle.ospf_whatif.specs.Stubs.{AreAllFailures}
use Rattle.ospf_whatif.specs.declared.failure.AreaFailure.{AreaFailure}
use Rattle.ospf_failures.specs.Without.{IsFirstAmong, IsFirstUnnamed, IsNamedBy}
use Rattle.ospf_failures.proofs.WithoutLemmas.{fault_weaker, first_unnamed}
use Rattle.ospf_failures.proofs.without.failures_of.Goals as goal

pub returns-in-Ok-clause-named : goal.returns-in-Ok-clause-named
returns-in-Ok-clause-named c = record {
  single = c.in_ok-single.single.items;
  are_single = c.in_ok-single.ensures.all;
  named = subst (λ (l : List AreaFailure). AllZip (IsNamedBy l) c.args.names.now c.in-Ok.failures.items) c.deref.ensures.value c.in-Ok.ensures.named;
}

pub returns-clause-fault : goal.returns-clause-fault
returns-clause-fault c =
    let A = advertisements_of c.args.listing.now in
    let are : AreAllFailures A c.deref.result.now = subst (λ (l : List AreaFailure). AreAllFailures A l) (sym c.deref.ensures.value) c.in_ok-single.ensures.all in
    fault_weaker (IsFirstAmong c.deref.result.now c.args.names.now) (IsFirstUnnamed A c.args.names.now) c.in-Err.fault
    (first_unnamed A c.deref.result.now c.args.names.now are) c.in-Err.ensures.fault
