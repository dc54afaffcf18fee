use Rattle.std.proofs.Common.{refl}
use Rattle.ospf_views.proofs.RecordFiles.Unwritten.{cut_at, cut_in, on_err, tells_unwanted, tells_wanted}
use Rattle.ospf_views.proofs.records.files.write_capture.Goals as goal

pub returns-in-None-clause-told : goal.returns-in-None-clause-told
returns-in-None-clause-told g c = tells_unwanted c.args.pcap c.in-None.is

pub returns-in_ok-bytes-in-Some-clause-told : goal.returns-in_ok-bytes-in-Some-clause-told
returns-in_ok-bytes-in-Some-clause-told g c = tells_wanted c.args.pcap c.in-Some.name c.write_file.result c.in-Some.is c.write_file.ensures.silent c.write_file.ensures.told

pub returns-in_err-bytes-in-Some-clause-cut : goal.returns-in_err-bytes-in-Some-clause-cut
returns-in_err-bytes-in-Some-clause-cut g c = on_err c.from_residual.result (cut_at c.args.pcap c.in-Some.name c.in-Some.is refl)

pub returns-in_ok-bytes-in-Some-clause-cut : goal.returns-in_ok-bytes-in-Some-clause-cut
returns-in_ok-bytes-in-Some-clause-cut g c = cut_in _ _ c.args.pcap c.in-Some.name c.write_file.result c.in-Some.is c.write_file.ensures.unchanged
