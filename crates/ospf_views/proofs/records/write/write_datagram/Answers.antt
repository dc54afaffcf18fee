use Rattle.std.proofs.Common.{◌++◌, ap, ◌∙◌}
use Rattle.std.proofs.lemmas.List.{flat_map_more}
use Rattle.ospf_views.specs.RecordFiles.Datagram.{captured}
use Rattle.ospf_views.specs.RecordFiles.Pcap.{file_header, record_bytes}
use Rattle.ospf_views.proofs.records.write.write_datagram.Goals as goal

pub returns-clause-capture : goal.returns-clause-capture
returns-clause-capture c packets is =
    let one = captured c.args.at c.args.source c.args.destination c.args.ospf.now in
    c.push_datagram.ensures ∙ ap (λ l. l ++ record_bytes one) (c.reserve.ensures.items ∙ is) ∙ flat_map_more record_bytes file_header packets one
