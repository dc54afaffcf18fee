use Rattle.std.proofs.lemmas.Result.{IfOk-weaker}
use Rattle.toml.specs.View.{table_view}
use Rattle.ospf_files.proofs.FaultsTold.{all_of_table}
use Rattle.ospf_files.proofs.all.explain_all.Goals as goal

pub returns-in-Ok : goal.returns-in-Ok
returns-in-Ok c =
    IfOk-weaker c.table_faults.result _ _ (λ faults are. all_of_table c.args.text.now (table_view c.in-Ok.table) c.in-Ok.ensures.ok faults.items are) c.table_faults.ensures
