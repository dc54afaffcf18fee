use Rattle.ospf_journal.proofs.ObjectLemmas.{objects_are_json}
use Rattle.ospf_journal.proofs.laws.objects_are_json.Goals as goal

pub returns : goal.returns
returns c = objects_are_json
