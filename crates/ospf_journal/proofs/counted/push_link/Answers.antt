use Rattle.std.proofs.Common.{get_or}
use Rattle.std.proofs.lemmas.List.{get_or_default}
use Rattle.ospf_journal.specs.Counted.{causes}
use Rattle.ospf_journal.proofs.CountedLemmas.{causes_more}
use Rattle.ospf_journal.proofs.counted.push_link.Goals as goal

pub loop-cause-preserved : goal.loop-cause-preserved
loop-cause-preserved c =
    causes_more (c.args.link, c.args.counts.now) causes c.loop-cause.cause-index (get_or causes c.loop-cause.cause-index _) _ _ _ c.loop-cause-test.true
    (get_or_default causes c.loop-cause.cause-index _ _ c.loop-cause-test.true) c.loop-cause.invariant c.in_ok-push_cause.ensures
