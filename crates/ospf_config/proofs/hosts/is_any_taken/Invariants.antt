use Rattle.toml.specs.View.{items_view}
use Rattle.ospf_config.specs.Tables.{tables_among}
use Rattle.ospf_config.proofs.HostLists.{NoneTaken}
use Rattle.ospf_config.proofs.hosts.is_any_taken.Given as goal

abbrev pub invariant-loop-place : goal.invariant-loop-place
invariant-loop-place l = NoneTaken l.rfc3021 (tables_among (items_view l.interfaces)) l.hosts l.place
