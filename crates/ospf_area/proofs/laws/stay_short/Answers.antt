use Rattle.ospf_area.proofs.ShortLemmas.{short_aged, short_expired, short_installed, short_removed}
use Rattle.ospf_area.proofs.laws.stay_short.Goals as goal

pub returns : goal.returns
returns c = record { installed = short_installed; aged = short_aged; expired = short_expired; removed = short_removed }
