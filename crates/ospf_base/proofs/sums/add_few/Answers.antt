use Rattle.std.proofs.Common.{arith}
use Rattle.ospf_base.proofs.SumLemmas.{plain_more, weighted_more}
use Rattle.ospf_base.proofs.sums.add_few.Goals as goal

pub loop-byte-preserved : goal.loop-byte-preserved
loop-byte-preserved c = record {
  plain = plain_more c.args.start.plain c.args.bytes.now c.loop-byte.byte-index c.loop-byte.plain c.from-plain.result c.loop-byte-test.true c.from-plain.ensures c.loop-byte.invariant.plain;
  weighted = weighted_more c.args.start.weighted c.args.start.plain c.args.bytes.now c.loop-byte.byte-index c.loop-byte.plain c.loop-byte.weighted c.from-plain.result c.loop-byte-test.true c.from-plain.ensures c.loop-byte.invariant.plain c.loop-byte.invariant.weighted;
  plain_low = omega (arith, c.loop-byte.invariant.plain_low);
  weighted_low = omega (arith, c.loop-byte.invariant.plain_low, c.loop-byte.invariant.weighted_low, c.loop-byte-test.true, c.requires);
}
