use Rattle.std.proofs.Common.{◌++◌, ap, ◌∙◌}
use Rattle.ospf_views.proofs.RecordFiles.Recorded.{recorded}
use Rattle.ospf_views.proofs.records.write.push_datagram.Goals as goal

pub returns : goal.returns
returns c =
    recorded c.args.out.now.items _ _ _ c.args.ospf.now c.args.at.seconds c.args.at.microseconds c.args.source.0 c.args.destination.0 c.args.size c.requires.size
    (c.push_bytes.ensures.bytes ∙ ap (λ l. c.args.out.now.items ++ l) c.record_header_of.ensures)
    (c.push_bytes-2.ensures.bytes ∙ ap (λ l. c.push_bytes.new.out.items ++ l) c.ip_header_of.ensures) c.push_bytes-3.ensures.bytes
