use Rattle.std.proofs.Common.{IsSome, arith, length-take, take}
use Rattle.ospf_config.specs.declared.interface.Interface.{Interface}
use Rattle.ospf_drive.proofs.UdpWire.Planned.{all_at, at_item, front_at, more_at, nothing_there}
use Rattle.ospf_drive.proofs.udp.plan.portless_in.Goals as goal

pub returns-then-is_none-clause-some : goal.returns-then-is_none-clause-some
returns-then-is_none-clause-some c = (
  c.index-interfaces-number.result,
  at_item _ _ _ c.loop-number-test.true c.index-interfaces-number.is,
  nothing_there _ c.if-is_none.ensures,
)

pub returns-then-is_none-clause-before : goal.returns-then-is_none-clause-before
returns-then-is_none-clause-before c =
    all_at (λ (i : Interface). IsSome i.port) (take c.loop-number.number c.args.interfaces.now) c.loop-number.number
    (omega (arith, length-take c.loop-number.number c.args.interfaces.now))
    (λ k y less at. c.loop-number.invariant k y less (front_at c.args.interfaces.now c.loop-number.number k y at))

pub loop-number-preserved : goal.loop-number-preserved
loop-number-preserved c =
    more_at (λ (i : Interface). IsSome i.port) c.args.interfaces.now c.loop-number.number c.index-interfaces-number.result
    (at_item _ _ _ c.loop-number-test.true c.index-interfaces-number.is) c.loop-number.invariant c.if-is_none.ensures

pub returns-clause-none : goal.returns-clause-none
returns-clause-none c =
    all_at (λ (i : Interface). IsSome i.port) c.args.interfaces.now c.loop-number.number c.loop-number-test.false c.loop-number.invariant
