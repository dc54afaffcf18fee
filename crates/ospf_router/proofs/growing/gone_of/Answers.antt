use Rattle.ospf_router.proofs.GrowingLemmas.{gone_longer, gone_next}
use Rattle.ospf_router.proofs.growing.gone_of.Goals as goal
use Rattle.ospf_router.proofs.growing.gone_of.Goals.{in-Some, in-None+in_ok-push-in-None}

pub loop-edge-preserved : goal.loop-edge-preserved
loop-edge-preserved c =
    let before = c.args.before.now in
    let after = c.args.after.now in
    let i = c.loop-edge.edge-index in
    elim c.match-place_from.branch [
      | in-Some w ↦ rw w.gone-is (gone_next before after c.loop-edge.gone.items i _ c.loop-edge-test.true w.in-Some.ensures c.loop-edge.invariant)
      | in-None+in_ok-push-in-None w ↦
          rw (w.gone-is, w.in_ok-push-in-None.ensures.items) (gone_longer before after c.loop-edge.gone.items i _ c.loop-edge-test.true c.loop-edge.invariant)
    ]
