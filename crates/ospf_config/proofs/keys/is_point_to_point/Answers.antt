use Rattle.std.proofs.lemmas.Bool.{false≢true}
use Rattle.toml.specs.View.{table_view}
use Rattle.ospf_config.proofs.HostLists.{no_kind}
use Rattle.ospf_config.proofs.keys.is_point_to_point.Goals as goal

pub returns-in-Err : goal.returns-in-Err
returns-in-Err c = ((λ yes. absurd (false≢true yes)), λ reads. absurd (no_kind (table_view c.args.table.now) c.kind_at.result _ c.in-Err.is c.kind_at.ensures reads))
