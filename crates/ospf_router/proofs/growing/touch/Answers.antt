use Rattle.std.proofs.Common.{◌≤◌, length}
use Rattle.std.proofs.lemmas.List.{take_all}
use Rattle.ospf_router.proofs.EndLemmas.{holds_push, touched_more}
use Rattle.ospf_router.proofs.growing.touch.Goals as goal

pub loop-end-preserved : goal.loop-end-preserved
loop-end-preserved c =
    let ends = c.args.ends.now in
    rw c.in_ok-push.ensures.items (record {
      kept = holds_push c.args.touched.now.items c.loop-end.touched.items _ c.loop-end.invariant.kept;
      ends = rw (c.end-item.is) (touched_more ends c.loop-end.end-index c.end-item.result c.loop-end.touched.items c.loop-end-test.true c.loop-end.invariant.ends);
    })

pub returns-clause-ends : goal.returns-clause-ends
returns-clause-ends c =
    let end : length c.args.ends.now ≤ c.loop-end.end-index = c.loop-end-test.false in
    rw take_all at c.loop-end.invariant.ends
