use Rattle.std.proofs.Common.{◌∙◌, get_or}
use Rattle.std.proofs.lemmas.List.{get_or_default}
use Rattle.ospf_journal.specs.Counted.{link_lines}
use Rattle.ospf_journal.proofs.CountedLemmas.{links_more}
use Rattle.ospf_journal.proofs.Enumerated.{all_there}
use Rattle.ospf_journal.proofs.counted.drop_lines.Goals as goal

pub loop-link-preserved : goal.loop-link-preserved
loop-link-preserved c =
    links_more c.args.links.now c.loop-link.link (get_or c.args.links.now c.loop-link.link _) _ _ c.loop-link-test.true
    (get_or_default c.args.links.now c.loop-link.link _ _ c.loop-link-test.true) c.loop-link.invariant c.in_ok-push_link.ensures

pub returns : goal.returns
returns c = c.loop-link.invariant ∙ all_there link_lines c.args.links.now c.loop-link.link c.loop-link-test.false
