-- Why a router drops what it receives (RFC 2328, section 8.2), as it is printed.
use Rattle.std.specs.Prelude.{ℕ, List, [], ◌++◌, Option, None, Some, codes}
use Rattle.ospf_area.specs.Outputs.{SentValue}
use Rattle.ospf_area.specs.State.{AreaValue}
use Rattle.ospf_base.specs.Text.{number_text}
use Rattle.ospf_base.specs.declared.ids.Addr.{Addr}
use Rattle.ospf_journal.specs.Causes.{cause_of}
use Rattle.ospf_packet.specs.Meaning.{Meaning}
use Rattle.ospf_packet.specs.PacketOf.{packet_of}
use Rattle.ospf_router.specs.AreaStep.Step.Event.{Datagram}
use Rattle.ospf_router.specs.AreaStep.Text.{dropped_text}
use Rattle.ospf_router.specs.declared.step.dropped.Dropped.{Dropped}
use Rattle.ospf_router.specs.declared.step.dropped.Dropped.TheVariants as dropped
use Rattle.ospf_views.specs.Details.{detail_on, detail_text}
use Rattle.ospf_views.specs.declared.detail.Detail.{Detail}

-- a field that does not fit explains that a packet is of another area, that a Hello does not
-- agree, or that a Database Description is not taken
abbrev pub detail_for : Dropped → Option Detail → Option Detail
detail_for dropped.Area detail = detail
detail_for dropped.HelloMismatch detail = detail
detail_for dropped.State detail = detail
detail_for _ detail = None

-- the field of what a datagram says that explains for what it was dropped, on a link of a router
abbrev pub dropped_detail : Option AreaValue → ℕ → Dropped → Option Meaning → Option Detail
dropped_detail area link cause m = detail_for cause (detail_on area link m)

-- the field, with both values, if there is one
abbrev pub detail_words : Option Detail → List ℕ
detail_words None = []
detail_words (Some detail) = codes ": " ++ detail_text detail

-- where the datagram came from, the cause, and the field
abbrev pub reason_line : Addr → Dropped → Option Detail → List ℕ
reason_line source cause detail =
    codes "  would drop the last packet from " ++ number_text source.0 ++ codes ": "
    ++ dropped_text cause ++ detail_words detail ++ codes "\n"

-- nothing of one that is taken
abbrev pub reason_by : Option AreaValue → ℕ → SentValue → Option Dropped → List ℕ
reason_by area link g None = []
reason_by area link g (Some cause) =
    reason_line g.source cause (dropped_detail area link cause (packet_of g.bytes))

-- of a datagram that comes on a link of a router now
abbrev pub drop_reason : Option AreaValue → ℕ → SentValue → List ℕ
drop_reason area link g =
    reason_by area link g (cause_of (Datagram link g.source g.destination g.bytes) area)
