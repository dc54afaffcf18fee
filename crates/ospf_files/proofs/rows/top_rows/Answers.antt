use Rattle.toml.specs.View.{table_view}
use Rattle.ospf_config.specs.Keys.{ReadsOwnRouterId, ReadsArea, ReadsStubRouter, ReadsOtherLsas, ReadsRfc3021}
use Rattle.ospf_config.proofs.Singles.{router_id_single, area_single, stub_router_single, other_lsas_single, rfc3021_single}
use Rattle.ospf_files.proofs.PlaceLists.{fault_error}
use Rattle.ospf_files.proofs.rows.top_rows.Goals as goal

pub returns : goal.returns
returns c =
    let t = table_view c.args.table.now in (
      record {
        key_is = c.key_row.ensures.key;
        wanted_is = c.key_row.ensures.wanted;
        fault_is = fault_error (ReadsOwnRouterId t) (router_id_single t) c.key_row.result.fault c.err.result c.router_id_at.result c.key_row.ensures.fault c.err.ensures.value c.router_id_at.ensures.reads;
      },
      (
        record {
          key_is = c.key_row-2.ensures.key;
          wanted_is = c.key_row-2.ensures.wanted;
          fault_is = fault_error (ReadsArea t) (area_single t) c.key_row-2.result.fault c.err-2.result c.area_at.result c.key_row-2.ensures.fault c.err-2.ensures.value c.area_at.ensures;
        },
        (
          record {
            key_is = c.key_row-3.ensures.key;
            wanted_is = c.key_row-3.ensures.wanted;
            fault_is = fault_error (ReadsStubRouter t) (stub_router_single t) c.key_row-3.result.fault c.err-3.result c.stub_router_at.result c.key_row-3.ensures.fault c.err-3.ensures.value c.stub_router_at.ensures;
          },
          (
            record {
              key_is = c.key_row-4.ensures.key;
              wanted_is = c.key_row-4.ensures.wanted;
              fault_is = fault_error (ReadsOtherLsas t) (other_lsas_single t) c.key_row-4.result.fault c.err-4.result c.other_lsas_at.result c.key_row-4.ensures.fault c.err-4.ensures.value c.other_lsas_at.ensures;
            },
            (
              record {
                key_is = c.key_row-5.ensures.key;
                wanted_is = c.key_row-5.ensures.wanted;
                fault_is = fault_error (ReadsRfc3021 t) (rfc3021_single t) c.key_row-5.result.fault c.err-5.result c.rfc3021_at.result c.key_row-5.ensures.fault c.err-5.ensures.value c.rfc3021_at.ensures;
              },
              (
                record { key_is = c.key_row-6.ensures.key; wanted_is = c.key_row-6.ensures.wanted; fault_is = rw c.key_row-6.ensures.fault c.list_fault.ensures },
                (
                  record { key_is = c.key_row-7.ensures.key; wanted_is = c.key_row-7.ensures.wanted; fault_is = rw c.key_row-7.ensures.fault c.host_list_fault.ensures },
                  tt,
                ),
              ),
            ),
          ),
        ),
      ),
    )
