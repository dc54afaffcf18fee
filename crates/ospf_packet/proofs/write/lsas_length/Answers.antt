use Rattle.std.proofs.Common.{◌+◌, length, ap, ◌∙◌, arith}
use Rattle.ospf_packet.proofs.SliceLemmas.{length_front, length_more}
use Rattle.ospf_packet.proofs.write.lsas_length.Goals as goal

pub returns-then-length-total-clause-none : goal.returns-then-length-total-clause-none
returns-then-length-total-clause-none c =
    let lsas = c.args.lsas.now in
    let i = c.loop-lsa.lsa-index in
    let same = c.as_bytes-length.ensures.bytes ∙ c.view.ensures.same ∙ c.lsa-item.is in
    omega (arith, length_front lsas (i + 1), length_more lsas i c.lsa-item.result c.loop-lsa-test.true, ap length same)

pub loop-lsa-preserved : goal.loop-lsa-preserved
loop-lsa-preserved c =
    let lsas = c.args.lsas.now in
    let i = c.loop-lsa.lsa-index in
    let same = c.as_bytes-length.ensures.bytes ∙ c.view.ensures.same ∙ c.lsa-item.is in
    record {
      counted = omega (arith, length_more lsas i c.lsa-item.result c.loop-lsa-test.true, ap length same);
      long = omega (arith, c.as_bytes-length.ensures.long, ap length c.as_bytes-length.ensures.bytes);
      small = omega arith;
    }
