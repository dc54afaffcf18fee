use Rattle.std.proofs.Common.{◌≤◌, get_or, arith}
use Rattle.ospf_world.specs.declared.ticks.Ticked.{Ticked}
use Rattle.ospf_views.proofs.RecordFiles.CountFacts.{all_more, all_read, by_false, counts_more}
use Rattle.ospf_views.proofs.records.stamps.read_ticks.Goals as goal

-- what stands past the end
abbrev none : Ticked
none = record { router = record { 0 = 0 }; sent = 0 }

pub loop-next-preserved : goal.loop-next-preserved
loop-next-preserved c = λ was. record {
  within = omega arith;
  came = all_more (λ (t : Ticked). t.sent ≤ c.args.number) c.args.ticks.now c.loop-next.next _ c.loop-next-test.true (c.loop-next.invariant was).came c.if-ticks-next.true;
  counts = counts_more (λ (t : Ticked). t.router.0) c.args.ticks.now c.loop-next.next _ c.loop-next.clocks c.count_one.new.counts c.loop-next-test.true c.in_ok-count_one.ensures (c.loop-next.invariant was).counts;
}

pub returns-else-ticks-next : goal.returns-else-ticks-next
returns-else-ticks-next c = λ was. record {
  is = c.loop-next.invariant was;
  all = all_read c.args.number c.args.ticks.now c.loop-next.next none (c.loop-next.invariant was).came (λ within. by_false (get_or c.args.ticks.now c.loop-next.next none) c.args.number c.if-ticks-next.false);
}

pub returns-after-loop-next : goal.returns-after-loop-next
returns-after-loop-next c = λ was. record {
  is = c.loop-next.invariant was;
  all = all_read c.args.number c.args.ticks.now c.loop-next.next none (c.loop-next.invariant was).came (λ within. absurd (let past = c.loop-next-test.false in omega arith));
}
