use Rattle.std.proofs.Common.{◌+◌, ◌++◌, List, ℕ, ap, flat_map, refl, sym, ◌∙◌, arith}
use Rattle.std.proofs.lemmas.List.{append_assoc}
use Rattle.ospf_views.specs.RecordFiles.Captures.{captured_at}
use Rattle.ospf_views.specs.RecordFiles.Pcap.{record_bytes}
use Rattle.ospf_views.specs.RecordFiles.Recorder.{records_since}
use Rattle.ospf_views.proofs.RecordFiles.CaptureFacts.{microsecond_is, read_on, second_is, stamped_more}
use Rattle.ospf_views.proofs.RecordFiles.RecorderFacts.{since_more, records_of}
use Rattle.ospf_views.proofs.records.recorder.Recorder.add.Goals as goal

pub returns-clause-added : goal.returns-clause-added
returns-clause-added c = λ ds is next.
    let ticks = c.args.ticks.now in
    let n = c.args.self.now.datagrams in
    let g = c.args.datagram.now in
    let was = c.args.out.now.items in
    let clocks = c.read_ticks.new.clocks in
    let read = c.in_ok-self.ensures is.clocks in
    let second = second_is ticks ds n g next.within next.is c.in_ok-self.field-0 c.count-second.result clocks read c.count-second.ensures in
    let micro = microsecond_is ticks ds n g c.count-second.result c.count.result c.args.self.now.stamped second c.count.ensures is.stamped in
    record {
      recorded = record {
        within = let w = next.within in omega (arith, w);
        clocks = read_on ticks n c.in_ok-self.field-0 clocks read.is;
        stamped = stamped_more ticks ds n g next.within next.is c.count-second.result c.args.self.now.stamped c.count_one.new.counts second c.in_ok-count_one.ensures is.stamped;
      };
      all = refl;
      sent = ap (λ (o : List ℕ). o ++ records_since (n + 1) ticks ds)
          (c.in_ok-add_datagram.ensures.added
          ∙ (λ i. was ++ flat_map record_bytes (captured_at ((c.moment_of-at.ensures.seconds ∙ second) i) ((c.moment_of-at.ensures.microseconds ∙ micro) i) g)))
          ∙ append_assoc was (records_of ticks ds (n, g)) (records_since (n + 1) ticks ds)
          ∙ ap (λ (o : List ℕ). was ++ o) (sym (since_more ticks ds n g next.within next.is));
    }
