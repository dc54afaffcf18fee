use Rattle.std.proofs.Common.{◌≡◌, ◌<◌, All, IsSome, Some, arith, length, slice_get, subst, take}
use Rattle.ospf_config.specs.declared.interface.Interface.{Interface}
use Rattle.ospf_drive.proofs.UdpWire.Planned.{all_at, at_item, more_at}
use Rattle.ospf_drive.specs.UdpWire.Plans.{HasPorts}
use Rattle.ospf_drive.proofs.udp.plan.first_portless.Goals as goal

pub returns-in-Some-clause-some : goal.returns-in-Some-clause-some
returns-in-Some-clause-some c =
    let within : c.loop-place.place < length c.args.files.now = omega (arith, c.requires, c.loop-place-test.true) in
    record {
      place = c.loop-place.place;
      config = c.index-configs-place.result;
      file_at = at_item _ _ _ within c.index-files-place.is;
      config_at = at_item _ _ _ c.loop-place-test.true c.index-configs-place.is;
      interface = c.in-Some.ensures.some.0;
      portless = subst (λ is. slice_get is c.in-Some.number ≡ Some c.in-Some.ensures.some.0) c.deref.ensures.value c.in-Some.ensures.some.1;
      no_port = c.in-Some.ensures.some.2;
      ported = subst (λ is. All (λ (i : Interface). IsSome i.port) (take c.in-Some.number is)) c.deref.ensures.value c.in-Some.ensures.before;
      before = c.loop-place.invariant;
    }

pub loop-place-preserved : goal.loop-place-preserved
loop-place-preserved c =
    more_at HasPorts c.args.configs.now c.loop-place.place c.index-configs-place.result (at_item _ _ _ c.loop-place-test.true c.index-configs-place.is)
    c.loop-place.invariant (subst (λ is. All (λ (i : Interface). IsSome i.port) is) c.deref.ensures.value c.in_default.ensures.none)

pub returns-clause-none : goal.returns-clause-none
returns-clause-none c = all_at HasPorts c.args.configs.now c.loop-place.place c.loop-place-test.false c.loop-place.invariant
