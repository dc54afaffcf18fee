use Rattle.std.proofs.Common.{◌∙◌, option_copied}
use Rattle.ospf_originate.proofs.Wants.SaidLemmas.{all_behind}
use Rattle.ospf_originate.proofs.contents.said.behind_interfaces.Goals as goal

pub returns : goal.returns
returns c = c.loop-link.invariant ∙ all_behind c.args.stub_router c.args.links.now c.loop-link.link-index (option_copied c.args.bytes) c.loop-link-test.false
