use Rattle.std.proofs.Common.{◌≤◌, length}
use Rattle.std.proofs.lemmas.List.{take_all}
use Rattle.ospf_router.proofs.EndLemmas.{adds_more, adds_none, replaced}
use Rattle.ospf_router.proofs.ends.replace_ends.Goals as goal

pub loop-end-init : goal.loop-end-init
loop-end-init c = record { in_order = c.leave_those.ensures.in_order; members = adds_none c.leave_those.new.ends.items }

pub loop-end-preserved : goal.loop-end-preserved
loop-end-preserved c =
    record {
      in_order = c.in_ok-insert_end.ensures.in_order;
      members = adds_more c.args.at.now c.loop-end.end-index _ c.leave_those.new.ends.items c.loop-end.ends.items _ c.loop-end-test.true c.loop-end.invariant.members
          (rw c.end-item.is at c.in_ok-insert_end.ensures.members);
    }

pub returns-clause-members : goal.returns-clause-members
returns-clause-members c =
    let end : length c.args.at.now ≤ c.loop-end.end-index = c.loop-end-test.false in
    replaced c.args.vertex c.args.at.now c.args.ends.now.items c.leave_those.new.ends.items c.loop-end.ends.items c.leave_those.ensures.left (rw take_all at c.loop-end.invariant.members)
