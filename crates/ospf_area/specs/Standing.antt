-- How the contents of an Update are acknowledged.
use Rattle.std.specs.Prelude.{◌++◌, None, Some, List, [], ◌∷◌, slice_get}
use Rattle.ospf_flood.specs.Acknowledgements.{acknowledgement}
use Rattle.ospf_flood.specs.Links.{sender_at}
use Rattle.ospf_flood.specs.declared.acknowledgement.Acknowledgement.{Acknowledgement}
use Rattle.ospf_flood.specs.declared.acknowledgement.Acknowledgement.TheVariants as answer
use Rattle.ospf_flood.specs.declared.acknowledgement.AcknowledgementCase.{AcknowledgementCase}
use Rattle.ospf_lsa.specs.declared.header.LsaHeader.{LsaHeader}
use Rattle.ospf_area.specs.Changes.{delayed_at}
use Rattle.ospf_area.specs.State.{AreaValue, LinkValue}
use Rattle.ospf_area.specs.declared.flooding.PacketSource.{PacketSource}

-- by the interface that the LSA came in on (13.5)
abbrev pub answer_at : AcknowledgementCase → PacketSource → List LinkValue → Acknowledgement
answer_at case f links = elim (slice_get links f.link) [
  | None ↦ answer.None
  | Some link ↦ acknowledgement case link.iface.state (sender_at link.iface f.address)
]

-- a header that is acknowledged in this way
abbrev pub acknowledging : Acknowledgement → PacketSource → LsaHeader → AreaValue → AreaValue
acknowledging answer.None f h s = s
acknowledging answer.Delayed f h s = record s { links = delayed_at f.link h s.links }
acknowledging answer.Direct f h s = record s { direct = s.direct ++ h ∷ [] }
