use Rattle.std.proofs.Common.{◌∙◌, ◌++◌, length, ap, subst, arith}
use Rattle.ospf_lsa.specs.declared.header.LsaHeader.{LsaHeader}
use Rattle.ospf_packet.specs.Headers.{aged_bytes, AgedFits}
use Rattle.ospf_packet.proofs.EntryLemmas.{fits_more, bytes_more, room_more}
use Rattle.ospf_packet.proofs.write.push_headers.Goals as goal

pub loop-header-preserved : goal.loop-header-preserved
loop-header-preserved c =
    let headers = c.args.headers.now in
    let i = c.loop-header.header-index in
    let h = c.header-item.result in
    record {
      bytes = c.push_bytes.ensures.bytes ∙ ap (λ bs. c.loop-header.out.items ++ bs) c.header_bytes.ensures.bytes
          ∙ ap (λ (x : LsaHeader). c.loop-header.out.items ++ aged_bytes x) c.header-item.is
          ∙ bytes_more aged_bytes headers i h c.args.out.now.items c.loop-header.out.items c.loop-header-test.true c.loop-header.invariant.bytes;
      capacity = omega (arith, c.loop-header.invariant.capacity, c.push_bytes.ensures.capacity);
      fit = fits_more AgedFits headers i h c.loop-header-test.true c.loop-header.invariant.fit
          (subst (λ (x : LsaHeader). AgedFits x) c.header-item.is c.header_bytes.ensures.fits);
    }

pub push_bytes-requires : goal.push_bytes-requires
push_bytes-requires c =
    let headers = c.args.headers.now in
    let i = c.loop-header.header-index in
    let h = c.header-item.result in
    let one = ap length c.header_bytes.ensures.bytes ∙ ap (λ (x : LsaHeader). length (aged_bytes x)) c.header-item.is in
    record {
      room = omega (
        arith,
        room_more aged_bytes headers i h c.args.out.now.items c.loop-header.out.items c.loop-header-test.true c.loop-header.invariant.bytes,
        one,
        c.requires.room,
        c.loop-header.invariant.capacity,
        c.loop-header.out.ok,
        c.args.out.now.ok,
      );
    }
