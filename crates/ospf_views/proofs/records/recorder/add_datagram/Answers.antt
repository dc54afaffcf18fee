use Rattle.std.proofs.Common.{◌++◌, Err, List, ℕ, ap, flat_map, sym, ◌∙◌}
use Rattle.std.proofs.lemmas.List.{append-nil}
use Rattle.ospf_views.specs.RecordFiles.Datagram.{captured}
use Rattle.ospf_views.specs.RecordFiles.Pcap.{Captured, record_bytes}
use Rattle.ospf_views.proofs.RecordFiles.CaptureFacts.{is_kept, is_left_out}
use Rattle.ospf_views.proofs.records.recorder.add_datagram.Goals as goal

pub returns-in-Ok-clause-added : goal.returns-in-Ok-clause-added
returns-in-Ok-clause-added c =
    let was = c.args.out.now.items in
    let kept = is_kept c.args.at c.sent.inside.source c.sent.inside.destination c.deref.result.now c.args.datagram.now
    (ap (λ s. s.source) c.sent.view_is) (ap (λ s. s.destination) c.sent.view_is) (c.deref.ensures.value ∙ ap (λ s. s.bytes) c.sent.view_is)
    (λ long. let h = sym c.in-Ok.is ∙ c.write_datagram.ensures.too_long.1 long in cc) in
    c.in-Ok.ensures.ok
    ∙ ap (λ (bs : List ℕ). was ++ bs) (sym (append-nil (record_bytes (captured c.args.at c.sent.inside.source c.sent.inside.destination c.deref.result.now))))
    ∙ ap (λ (cs : List Captured). was ++ flat_map record_bytes cs) kept

pub returns-in-Err-TooLong-clause-added : goal.returns-in-Err-TooLong-clause-added
returns-in-Err-TooLong-clause-added c =
    let was = c.args.out.now.items in
    let out = is_left_out c.args.at c.deref.result.now c.args.datagram.now (c.deref.ensures.value ∙ ap (λ s. s.bytes) c.sent.view_is)
    (c.write_datagram.ensures.too_long.0 (c.in-Err-TooLong.is ∙ ap (λ f. Err f) c.in-Err-TooLong.field-0-is)) in
    c.in-Err-TooLong.ensures.err ∙ sym (append-nil was) ∙ ap (λ (cs : List Captured). was ++ flat_map record_bytes cs) (sym out)
