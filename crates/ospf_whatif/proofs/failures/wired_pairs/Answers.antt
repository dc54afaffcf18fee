use Rattle.std.proofs.Common.{◌≤◌, ℕ, List, [], length, subst, arith}
use Rattle.std.proofs.lemmas.List.{take_all}
use Rattle.ospf_graph.specs.Adds.{Adds}
use Rattle.ospf_graph.proofs.EdgeLists.AddsLemmas.{adds_next}
use Rattle.ospf_whatif.specs.Single.{GivenBy, IsPairOf}
use Rattle.ospf_whatif.specs.declared.failure.AreaFailure.{AreaFailure}
use Rattle.ospf_whatif.proofs.SingleLemmas.{adds_sorted}
use Rattle.ospf_whatif.proofs.failures.wired_pairs.Goals as goal

pub loop-wire-preserved : goal.loop-wire-preserved
loop-wire-preserved c =
    adds_next IsPairOf c.args.wires.now c.loop-wire.wire-index c.wire-item.result c.new-pairs.result.items c.loop-wire.pairs.items c.push_pair.new.pairs.items
    c.loop-wire-test.true c.wire-item.is c.loop-wire.invariant c.in_ok-push_pair.ensures

pub returns : goal.returns
returns c =
    let end : length c.args.wires.now ≤ c.loop-wire.wire-index = omega (arith, c.loop-wire-test.false) in
    adds_sorted (GivenBy IsPairOf c.args.wires.now) [] c.loop-wire.pairs.items c.of.result c.of.ensures
    (subst (λ (old : List ℕ). Adds (GivenBy IsPairOf c.args.wires.now) old c.loop-wire.pairs.items) c.new-pairs.ensures.items
    (subst (λ (l : List AreaFailure). Adds (GivenBy IsPairOf l) c.new-pairs.result.items c.loop-wire.pairs.items) (take_all c.loop-wire.wire-index c.args.wires.now end) c.loop-wire.invariant))
