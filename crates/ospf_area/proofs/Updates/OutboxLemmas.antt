-- The first Database Description of an exchange, as it goes out.
use Rattle.std.proofs.Common.{◌≡◌, ◌∙◌, ℕ, List, [], ◌∷◌, Some, ap}
use Rattle.ospf_base.specs.Constants.{router_options}
use Rattle.ospf_base.specs.declared.ids.Addr.{Addr}
use Rattle.ospf_exchange.specs.Timers.{begins}
use Rattle.ospf_lsa.specs.declared.header.LsaHeader.{LsaHeader}
use Rattle.ospf_neighbour.specs.declared.neighbour.Exchanging.{Exchanging}
use Rattle.ospf_packet.specs.Meaning.{BodyMeaning, description}
use Rattle.ospf_packet.specs.declared.body.Description.{Description}
use Rattle.ospf_area.specs.Outboxes.{OutboxValue, and_packets, posted_all}
use Rattle.ospf_area.proofs.Words.{posted}
use Rattle.ospf_area.specs.Sending.{to_address}
use Rattle.ospf_area.specs.State.{LinkValue}
use Rattle.ospf_area.specs.declared.flooding.PacketSource.{PacketSource}
use Rattle.ospf_area.specs.declared.sending.RouterContext.{RouterContext}
use Rattle.ospf_area.proofs.OutboxLemmas.{posted-one}
use Rattle.ospf_area.specs.Updates.Meets.{first_dd_on}

-- what a Database Description says of an exchange that stands so
abbrev pub fields : ℕ → Exchanging → Description
fields mtu e = record { mtu = mtu; options = router_options; flags = e.flags; number = e.number }

-- by what the code has at hand of the link and of the exchange
pub first_posted : (own : RouterContext) (f : PacketSource) (number tick : ℕ) (link view : LinkValue) (says : BodyMeaning) (e : Exchanging) (hs : List LsaHeader) (address : Addr) (o p : OutboxValue)
    → view ≡ link → e ≡ begins number tick → hs ≡ [] → says ≡ description (fields view.settings.mtu e) hs → address ≡ to_address view.iface f.address
    → o ≡ record { next = number; sent = [] } → p ≡ and_packets o (record { destination = address; body = says } ∷ [])
    → posted_all own f.link view.iface p.sent ≡ first_dd_on own f number (Some link)
first_posted own f number tick link view says e hs address o p is_view is_first none is_said is_address is_new is_left =
    posted-one own f.link view.iface number o p (record { destination = address; body = says }) is_new is_left
    ∙ ap (λ (a : Addr). posted own f.link view.iface (record { destination = a; body = says })) is_address
    ∙ ap (λ (b : BodyMeaning). posted own f.link view.iface (record { destination = to_address view.iface f.address; body = b }))
    (is_said ∙ ap (λ (x : Exchanging). description (fields view.settings.mtu x) hs) is_first ∙ ap (λ (l : List LsaHeader). description (fields view.settings.mtu (begins number tick)) l) none)
    ∙ ap (λ (x : LinkValue). posted own f.link x.iface (record { destination = to_address x.iface f.address; body = description (fields x.settings.mtu (begins number tick)) [] })) is_view
