use Rattle.ospf_area.proofs.Updates.ShortLemmas.{ages_short, flush_short, header_short, met_short, removes_short, store_short, update_short}
use Rattle.ospf_area.specs.Updates.Removal.{leaving}
use Rattle.ospf_area.proofs.update.laws.area_stays_short.Goals as goal

pub returns : goal.returns
returns c = record {
  stored = store_short;
  met = met_short;
  updated = update_short;
  acknowledged = header_short;
  flushed = flush_short;
  aged = ages_short;
  removed = λ before out out' after removes. removes_short (leaving before) before out out' after removes;
}
