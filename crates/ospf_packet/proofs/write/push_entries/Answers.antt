use Rattle.std.proofs.Common.{◌∙◌, ◌++◌, length, ap, arith}
use Rattle.ospf_packet.specs.Requests.{request_entry_bytes, RequestEntryFits}
use Rattle.ospf_packet.specs.declared.entry.RequestEntry.{RequestEntry}
use Rattle.ospf_packet.proofs.EntryLemmas.{fits_more, bytes_more, room_more}
use Rattle.ospf_packet.proofs.write.push_entries.Goals as goal

pub loop-entry-preserved : goal.loop-entry-preserved
loop-entry-preserved c = record {
  bytes = c.push_bytes.ensures.bytes ∙ ap (λ bs. c.loop-entry.out.items ++ bs) c.to_bytes.ensures.bytes
      ∙ bytes_more request_entry_bytes c.args.entries.now c.loop-entry.entry-index _ c.args.out.now.items c.loop-entry.out.items c.loop-entry-test.true c.loop-entry.invariant.bytes;
  capacity = omega (arith, c.loop-entry.invariant.capacity, c.push_bytes.ensures.capacity);
  fit = fits_more RequestEntryFits c.args.entries.now c.loop-entry.entry-index _ c.loop-entry-test.true c.loop-entry.invariant.fit c.to_bytes.ensures.fits;
}

pub push_bytes-requires : goal.push_bytes-requires
push_bytes-requires c =
    let entries = c.args.entries.now in
    let i = c.loop-entry.entry-index in
    let none : RequestEntry = record { kind = 0; id = 0; router = record { 0 = 0 } } in
    let one = room_more request_entry_bytes entries i none c.args.out.now.items c.loop-entry.out.items c.loop-entry-test.true c.loop-entry.invariant.bytes in
    record {
      room = omega (
        arith,
        one,
        ap length c.to_bytes.ensures.bytes,
        c.requires.room,
        c.loop-entry.invariant.capacity,
        c.loop-entry.out.ok,
        c.args.out.now.ok,
      );
    }
