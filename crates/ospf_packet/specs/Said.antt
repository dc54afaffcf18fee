-- What a packet that was read says, and what one that will be written says.
use Rattle.ospf_packet.specs.declared.body.Body.{Body}
use Rattle.ospf_packet.specs.declared.body.Body.TheVariants as read
use Rattle.ospf_packet.specs.declared.packet.Packet.{Packet}
use Rattle.ospf_packet.specs.declared.value.BodyValue.{BodyValue}
use Rattle.ospf_packet.specs.declared.value.BodyValue.TheVariants as owned
use Rattle.ospf_packet.specs.declared.value.PacketValue.{PacketValue}
use Rattle.ospf_packet.specs.Meaning.{BodyMeaning, hello, description, request, update, acknowledgment, Meaning}

-- what the body of a packet that was read says
abbrev pub body_said : Body → BodyMeaning
body_said (read.Hello fields neighbours) = hello fields neighbours
body_said (read.Description fields headers) = description fields headers
body_said (read.Request entries) = request entries
body_said (read.Update lsas) = update lsas
body_said (read.Acknowledgment headers) = acknowledgment headers

-- what a packet that was read says
abbrev pub said : Packet → Meaning
said p = record { router = p.router; area = p.area; body = body_said p.body }

-- what the body of a packet that will be written says
abbrev pub body_meant : BodyValue → BodyMeaning
body_meant (owned.Hello fields neighbours) = hello fields neighbours.items
body_meant (owned.Description fields headers) = description fields headers.items
body_meant (owned.Request entries) = request entries.items
body_meant (owned.Update lsas) = update lsas.items
body_meant (owned.Acknowledgment headers) = acknowledgment headers.items

-- what a packet that will be written says
abbrev pub meant : PacketValue → Meaning
meant p = record { router = p.router; area = p.area; body = body_meant p.body }
