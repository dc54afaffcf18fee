use Rattle.toml.specs.View.{table_view}
use Rattle.ospf_config.specs.Keys.{ReadsKind, ReadsInterfaceAddress, ReadsCost, ReadsPriority, ReadsHello, ReadsDead, ReadsRetransmit, ReadsTransmitDelay, ReadsMtu, ReadsPort, ReadsPassive, ReadsPrefixSuppression}
use Rattle.ospf_files.proofs.PlaceLists.{fault_error}
use Rattle.ospf_config.proofs.Singles.{kind_single, address_single, only_cost, priority_single, hello_single, dead_single, retransmit_single, transmit_delay_single, mtu_single, port_single, passive_single, prefix_suppression_single}
use Rattle.ospf_files.proofs.rows.interface_rows.Goals as goal

pub returns : goal.returns
returns c =
    let t = table_view c.args.table.now in
    let q = c.args.rfc3021 in (
      record {
        key_is = c.key_row.ensures.key;
        wanted_is = c.key_row.ensures.wanted;
        fault_is = fault_error (ReadsKind t) (kind_single t) c.key_row.result.fault c.err.result c.kind_at.result c.key_row.ensures.fault c.err.ensures.value c.kind_at.ensures;
      },
      (
        record {
          key_is = c.key_row-2.ensures.key;
          wanted_is = c.key_row-2.ensures.wanted;
          fault_is = fault_error (ReadsInterfaceAddress q t) (address_single t q) c.key_row-2.result.fault c.err-2.result c.address_at.result c.key_row-2.ensures.fault c.err-2.ensures.value c.address_at.ensures;
        },
        (
          record {
            key_is = c.key_row-3.ensures.key;
            wanted_is = c.key_row-3.ensures.wanted;
            fault_is = fault_error (ReadsCost t) (only_cost t) c.key_row-3.result.fault c.err-3.result c.cost_at.result c.key_row-3.ensures.fault c.err-3.ensures.value c.cost_at.ensures.reads;
          },
          (
            record {
              key_is = c.key_row-4.ensures.key;
              wanted_is = c.key_row-4.ensures.wanted;
              fault_is = fault_error (ReadsPriority t) (priority_single t) c.key_row-4.result.fault c.err-4.result c.priority_at.result c.key_row-4.ensures.fault c.err-4.ensures.value c.priority_at.ensures;
            },
            (
              record {
                key_is = c.key_row-5.ensures.key;
                wanted_is = c.key_row-5.ensures.wanted;
                fault_is = fault_error (ReadsHello t) (hello_single t) c.key_row-5.result.fault c.err-5.result c.hello_at.result c.key_row-5.ensures.fault c.err-5.ensures.value c.hello_at.ensures.reads;
              },
              (
                record {
                  key_is = c.key_row-6.ensures.key;
                  wanted_is = c.key_row-6.ensures.wanted;
                  fault_is = fault_error (ReadsDead t) (dead_single t) c.key_row-6.result.fault c.err-6.result c.dead_at.result c.key_row-6.ensures.fault c.err-6.ensures.value c.dead_at.ensures.reads;
                },
                (
                  record {
                    key_is = c.key_row-7.ensures.key;
                    wanted_is = c.key_row-7.ensures.wanted;
                    fault_is = fault_error (ReadsRetransmit t) (retransmit_single t) c.key_row-7.result.fault c.err-7.result c.retransmit_at.result c.key_row-7.ensures.fault c.err-7.ensures.value c.retransmit_at.ensures.reads;
                  },
                  (
                    record {
                      key_is = c.key_row-8.ensures.key;
                      wanted_is = c.key_row-8.ensures.wanted;
                      fault_is = fault_error (ReadsTransmitDelay t) (transmit_delay_single t) c.key_row-8.result.fault c.err-8.result c.transmit_delay_at.result c.key_row-8.ensures.fault c.err-8.ensures.value c.transmit_delay_at.ensures.reads;
                    },
                    (
                      record {
                        key_is = c.key_row-9.ensures.key;
                        wanted_is = c.key_row-9.ensures.wanted;
                        fault_is = fault_error (ReadsMtu t) (mtu_single t) c.key_row-9.result.fault c.err-9.result c.mtu_at.result c.key_row-9.ensures.fault c.err-9.ensures.value c.mtu_at.ensures.reads;
                      },
                      (
                        record {
                          key_is = c.key_row-10.ensures.key;
                          wanted_is = c.key_row-10.ensures.wanted;
                          fault_is = fault_error (ReadsPort t) (port_single t) c.key_row-10.result.fault c.err-10.result c.port_at.result c.key_row-10.ensures.fault c.err-10.ensures.value c.port_at.ensures;
                        },
                        (
                          record { key_is = c.key_row-11.ensures.key; wanted_is = c.key_row-11.ensures.wanted; fault_is = rw c.key_row-11.ensures.fault c.peers_fault.ensures },
                          (
                            record {
                              key_is = c.key_row-12.ensures.key;
                              wanted_is = c.key_row-12.ensures.wanted;
                              fault_is = fault_error (ReadsPassive t) (passive_single t) c.key_row-12.result.fault c.err-11.result c.passive_at.result c.key_row-12.ensures.fault c.err-11.ensures.value c.passive_at.ensures;
                            },
                            (
                              record {
                                key_is = c.key_row-13.ensures.key;
                                wanted_is = c.key_row-13.ensures.wanted;
                                fault_is = fault_error (ReadsPrefixSuppression t) (prefix_suppression_single t) c.key_row-13.result.fault c.err-12.result c.prefix_suppression_at.result c.key_row-13.ensures.fault c.err-12.ensures.value c.prefix_suppression_at.ensures;
                              },
                              tt,
                            ),
                          ),
                        ),
                      ),
                    ),
                  ),
                ),
              ),
            ),
          ),
        ),
      ),
    )
