use Rattle.toml.specs.View.{table_view}
use Rattle.ospf_files.proofs.PlaceLists.{table_added}
use Rattle.ospf_files.proofs.places.table_explained.Goals as goal

pub returns : goal.returns
returns c =
    table_added (table_view c.args.table.now) c.args.fault _ _ _ _ _ _ _ c.new-out.ensures.items c.asks_rfc3021-rfc3021.ensures c.interface_values-interfaces.ensures.tables c.host_values.ensures.tables
    c.in_ok-add_top.ensures c.in_ok-add_interfaces.ensures c.in_ok-add_hosts.ensures
