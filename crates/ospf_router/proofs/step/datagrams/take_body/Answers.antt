use Rattle.std.proofs.Common.{subst}
use Rattle.ospf_packet.specs.Said.{body_said}
use Rattle.ospf_packet.specs.declared.body.Body.{Body}
use Rattle.ospf_router.specs.AreaStep.Ready.{CanTakePacket}
use Rattle.ospf_router.proofs.step.datagrams.take_body.Goals as goal

pub take_hello-requires : goal.take_hello-requires
take_hello-requires c = record { room = subst (λ (b : Body). CanTakePacket c.args.from (body_said b) c.args.area.now) c.in-Hello.is c.requires }

pub take_request-requires : goal.take_request-requires
take_request-requires c = subst (λ (b : Body). CanTakePacket c.args.from (body_said b) c.args.area.now) c.in-Request.is c.requires
