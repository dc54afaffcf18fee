use Rattle.std.proofs.Common.{◌∙◌, sym}
use Rattle.ospf_originate.proofs.IdleLemmas.{idle_quiet, quiet_idle}
use Rattle.ospf_originate.proofs.idle.is_idle.Goals as goal

pub returns : goal.returns
returns c = (
  (λ is. quiet_idle c.args.area.now c.requires.numbered (sym c.is_quiet.ensures ∙ is)),
  λ idle. c.is_quiet.ensures ∙ idle_quiet c.args.area.now c.requires.links.apart idle,
)
