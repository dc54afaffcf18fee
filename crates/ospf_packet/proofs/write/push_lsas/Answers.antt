use Rattle.std.proofs.Common.{ℕ, List, ◌∙◌, ◌++◌, length, ap, subst, arith}
use Rattle.ospf_lsa.specs.Lsa.{IsLsa}
use Rattle.ospf_packet.specs.Slices.{IsSlice}
use Rattle.ospf_packet.proofs.EntryLemmas.{fits_more, bytes_more, room_more}
use Rattle.ospf_packet.proofs.SliceLemmas.{slice_of_lsa}
use Rattle.ospf_packet.proofs.write.push_lsas.Goals as goal

pub loop-lsa-preserved : goal.loop-lsa-preserved
loop-lsa-preserved c =
    let lsas = c.args.lsas.now in
    let i = c.loop-lsa.lsa-index in
    let lsa = c.lsa-item.result in
    let same = c.view.ensures.same ∙ c.lsa-item.is in
    record {
      bytes = c.push_bytes.ensures.bytes ∙ ap (λ bs. c.loop-lsa.out.items ++ bs) (c.as_bytes.ensures.bytes ∙ same)
          ∙ bytes_more (λ (l : List ℕ). l) lsas i lsa c.args.out.now.items c.loop-lsa.out.items c.loop-lsa-test.true c.loop-lsa.invariant.bytes;
      capacity = omega (arith, c.loop-lsa.invariant.capacity, c.push_bytes.ensures.capacity);
      fit = fits_more IsSlice lsas i lsa c.loop-lsa-test.true c.loop-lsa.invariant.fit
          (slice_of_lsa _ (subst (λ (l : List ℕ). IsLsa l) same c.as_bytes.ensures.valid));
    }

pub push_bytes-requires : goal.push_bytes-requires
push_bytes-requires c =
    let lsas = c.args.lsas.now in
    let i = c.loop-lsa.lsa-index in
    let lsa = c.lsa-item.result in
    let one = ap length (c.as_bytes.ensures.bytes ∙ c.view.ensures.same ∙ c.lsa-item.is) in
    record {
      room = omega (
        arith,
        room_more (λ (l : List ℕ). l) lsas i lsa c.args.out.now.items c.loop-lsa.out.items c.loop-lsa-test.true c.loop-lsa.invariant.bytes,
        one,
        c.requires.room,
        c.loop-lsa.invariant.capacity,
        c.loop-lsa.out.ok,
        c.args.out.now.ok,
      );
    }
