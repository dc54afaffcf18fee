use Rattle.ospf_packet.specs.Slices.{AreSlices}
use Rattle.ospf_packet.proofs.SliceLemmas.{goes_on, breaks_off}
use Rattle.ospf_packet.proofs.lsas.Lsas.are_all.Goals as goal

pub returns-in-None : goal.returns-in-None
returns-in-None c = (
  (λ t. absurd cc),
  (λ are. absurd (breaks_off c.args.count c.loop.counter c.loop.rest.now (AreSlices c.args.count c.args.bytes.now) c.loop-test.true c.in-None.ensures.none c.loop.invariant are)),
)

pub loop-preserved : goal.loop-preserved
loop-preserved c =
    goes_on c.args.count c.loop.counter c.loop.rest.now c.in-Some.field-0-0.now c.in-Some.after.now (AreSlices c.args.count c.args.bytes.now) c.loop-test.true c.in-Some.ensures.found c.loop.invariant
