use Rattle.ospf_area.proofs.Updates.NumberLemmas.{ages_numbers, flush_numbers, header_numbers, met_numbers, removes_numbers, update_numbers}
use Rattle.ospf_area.specs.Updates.Removal.{leaving}
use Rattle.ospf_area.proofs.update.laws.numbers_are_kept.Goals as goal

pub returns : goal.returns
returns c = record {
  met = met_numbers;
  updated = update_numbers;
  acknowledged = header_numbers;
  flushed = flush_numbers;
  aged = ages_numbers;
  removed = λ before out out' after removes. removes_numbers (leaving before) before out out' after removes;
}
