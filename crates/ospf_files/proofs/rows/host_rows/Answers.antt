use Rattle.toml.specs.View.{table_view}
use Rattle.ospf_config.specs.Keys.{ReadsHostAddress, ReadsHostCost}
use Rattle.ospf_config.proofs.Singles.{host_address_single, host_cost_single}
use Rattle.ospf_files.proofs.PlaceLists.{fault_error}
use Rattle.ospf_files.proofs.rows.host_rows.Goals as goal

pub returns : goal.returns
returns c q =
    let t = table_view c.args.table.now in (
      record {
        key_is = c.key_row.ensures.key;
        wanted_is = c.key_row.ensures.wanted;
        fault_is = fault_error (ReadsHostAddress t) (host_address_single t) c.key_row.result.fault c.err.result c.host_address_at.result c.key_row.ensures.fault c.err.ensures.value c.host_address_at.ensures;
      },
      (
        record {
          key_is = c.key_row-2.ensures.key;
          wanted_is = c.key_row-2.ensures.wanted;
          fault_is = fault_error (ReadsHostCost t) (host_cost_single t) c.key_row-2.result.fault c.err-2.result c.host_cost_at.result c.key_row-2.ensures.fault c.err-2.ensures.value c.host_cost_at.ensures;
        },
        tt,
      ),
    )
