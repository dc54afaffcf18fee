use Rattle.std.proofs.Common.{length, arith, ◌≤◌}
use Rattle.std.proofs.lemmas.List.{take_all}
use Rattle.ospf_graph.proofs.CandidateLemmas.{candidates_joined, joins_none}
use Rattle.ospf_graph.proofs.paths.add_each.Goals as goal

pub loop-edge-init : goal.loop-edge-init
loop-edge-init c = record { joins = joins_none _ c.args.candidates.now.list; looks = omega arith }

pub loop-edge-preserved : goal.loop-edge-preserved
loop-edge-preserved c =
    record {
      joins = candidates_joined c.args.vertex c.args.distance c.args.some.now c.loop-edge.edge-index _ _ _ _ c.args.candidates.now.list c.loop-edge.candidates.list _
          c.loop-edge-test.true c.requires.from c.loop-edge.invariant.joins c.in_ok-offer.ensures.joins;
      looks =
          let before = c.loop-edge.invariant.looks in
          let now = c.in_ok-offer.ensures.looks in
          omega arith;
    }

pub returns-clause-joins : goal.returns-clause-joins
returns-clause-joins c =
    let end : length c.args.some.now ≤ c.loop-edge.edge-index = c.loop-edge-test.false in
    rw take_all at c.loop-edge.invariant.joins
