-- Hellos, links that go up and down, and timers are quiet parts.
use Rattle.std.proofs.Common.{◌≡◌, ◌&&◌, not, nat_le, inl, inr, ℕ, Bool, true, false, List, [], map, Option, None, Some, slice_get, refl, sym, ap, subst, if◌then◌else◌}
use Rattle.std.specs.List.{Contains}
use Rattle.ospf_neighbour.specs.declared.iface.machine.Iface.{Iface}
use Rattle.ospf_neighbour.specs.Neighbour.{NeighbourValue}
use Rattle.ospf_neighbour.specs.Neighbours.{neighbour_of}
use Rattle.ospf_packet.specs.declared.body.Hello.{Hello}
use Rattle.ospf_exchange.specs.declared.rule.Local.{Local}
use Rattle.ospf_area.specs.Acting.{OnEachLink}
use Rattle.ospf_area.specs.Turns.{Turn}
use Rattle.ospf_area.specs.Packets.{packet_if}
use Rattle.ospf_adjacency.specs.Heard.{hello_effect, turn_of}
use Rattle.ospf_adjacency.proofs.Words.{heard, naming_event, sender_of}
use Rattle.ospf_adjacency.specs.HelloLaws as hellos
use Rattle.ospf_neighbour.specs.Interface.Machine.{is_down}
use Rattle.ospf_adjacency.specs.Links.{down, hello_packet, hello_ticked}
use Rattle.ospf_adjacency.proofs.GoLemmas.{hello_goes, timers_go}
use Rattle.ospf_area.specs.Outputs.{AreReadAsSent, OutputsValue}
use Rattle.ospf_area.specs.Places.{flat_from}
use Rattle.ospf_area.specs.Sending.{and_sends, context_of}
use Rattle.ospf_area.specs.State.{AreaValue, LinkValue}
use Rattle.ospf_area.specs.declared.flooding.PacketSource.{PacketSource}
use Rattle.ospf_router.specs.AreaStep.Links.{ChangesLinks, LinkQuiet}
use Rattle.ospf_router.specs.AreaStep.Neighbours.{Quiet}
use Rattle.ospf_router.specs.AreaStep.Puts.{PutsOut}
use Rattle.ospf_router.proofs.AreaStep.LinkParts.{one_quiet, quiet_same}
use Rattle.ospf_router.proofs.AreaStep.StateFacts.{Contains-nil}
use Rattle.ospf_router.proofs.AreaStep.PutParts.{puts_sent}
use Rattle.ospf_adjacency.specs.LinkSteps.Parts.{hello_out, hello_part, link_down, link_timed, link_up, neighbourhood_of, with_neighbourhood}
use Rattle.ospf_area.specs.Outboxes.{posted_all, local_by}
use Rattle.ospf_adjacency.specs.LinkSteps.Works.{WorksOn, link_changed, up_out_on}
use Rattle.ospf_adjacency.proofs.LinkSteps.Words.{hello_sent, some_changed, up_packets}
use Rattle.ospf_router.specs.AreaStep.Invariants.{AreRising}
use Rattle.ospf_router.proofs.AreaStep.Known.{AreBare, bare_if, bare_known, event_bare, link_quiet, same_goes, links_known, none_known}
use Rattle.ospf_router.proofs.AreaStep.Works.{all_links_put, nothing_read, one_link, puts_nothing, read_sent, same_quiet, silent_links_put, work_puts}

-- ---- a Hello that comes

hello_bare : (i : Iface) (local : Local) (h : Hello) (named : Bool) (t : Turn) → t.sent ≡ [] → AreBare (hello_effect i local h named t).sent
hello_bare i local h named t none p c = elim (event_bare i local (naming_event i named t.neighbour) (record t { neighbour = heard i h t.neighbour }) p c) [
  | inl old ↦ absurd (Contains-nil p (subst (λ ps. Contains ps p) none old))
  | inr bare ↦ bare
]

pub hello_puts : (f : PacketSource) (h : Hello) (named : Bool) (s t : AreaValue) (out out' : OutputsValue) → AreReadAsSent out'.sent → WorksOn (hello_part (context_of s) f h named s.next_dd) f.link s out out' t → PutsOut (λ o. Quiet s o t) out out'
hello_puts f h named s t out out' read is =
    work_puts (λ o. Quiet s o t) (hello_part (context_of s) f h named s.next_dd) f.link s.sent s t out out' is read (λ same. same_quiet s t same)
    (λ link one.
    let local = local_by (context_of s) link.settings in
    let start = neighbourhood_of link s.next_dd in
    let x = hello_part (context_of s) f h named s.next_dd link in
    one_quiet f.link link (with_neighbourhood x link) (posted_all (context_of s) f.link link.iface x.sent) s _ t one
    (link_quiet s link (with_neighbourhood x link) (λ q. hello_goes link.iface local f.router f.address h named start q) (λ a c. c))
    (bare_known s f.link link.iface x.sent (hello_bare link.iface local h named (turn_of (sender_of link.neighbours f.router f.address) start) refl)))

-- ---- links

hello_if : (b : Bool) (i : Iface) (ns : List NeighbourValue) → AreBare (packet_if b (hello_packet i ns))
hello_if b i ns = bare_if b (hello_packet i ns) (λ is. (refl, refl))

up_quiet : (s : AreaValue) (link : LinkValue) → LinkQuiet s link (link_up link)
up_quiet s link = link_quiet s link (link_up link) (λ q. same_goes (neighbour_of link.neighbours q)) (λ a c. c)

pub up_puts : (l : ℕ) (s t : AreaValue) (out out' : OutputsValue) → AreReadAsSent out'.sent → t ≡ link_changed link_up l s → out' ≡ and_sends out (up_out_on (slice_get s.links l) (context_of s) l) → PutsOut (λ o. Quiet s o t) out out'
up_puts l s t out out' read state outputs = by (slice_get s.links l) refl state outputs
  where
    by : (o : Option LinkValue) → slice_get s.links l ≡ o → t ≡ some_changed o link_up l s → out' ≡ and_sends out (up_out_on o (context_of s) l) → PutsOut (λ o. Quiet s o t) out out'
    by None at state outputs = puts_sent (λ o. Quiet s o t) out out' [] (same_quiet s t state) outputs
    by (Some link) at state outputs =
        let ds = up_out_on (Some link) (context_of s) l in
        puts_sent (λ o. Quiet s o t) out out' ds
        (one_quiet l link (link_up link) ds s _ t (one_link l link (link_up link) s.next_dd s.sent ds s t at state (read_sent out out' ds outputs read)) (up_quiet s link)
        (bare_known s l (link_up link).iface (up_packets link) (hello_if (is_down link.iface.state) (link_up link).iface link.neighbours))) outputs

all_leave : (o : Option NeighbourValue) → hellos.KeepsOrLosesLists o None
all_leave None = tt
all_leave (Some n) = tt

down_quiet : (s : AreaValue) (link : LinkValue) → LinkQuiet s link (link_down link)
down_quiet s link = go (is_down link.iface.state)
  where
    gone : LinkValue
    gone = record link { iface = down link.iface; neighbours = []; delayed = []; elects = false }

    go : (b : Bool) → LinkQuiet s link (if b then link else gone)
    go true = quiet_same s link
    go false = link_quiet s link gone (λ q. all_leave (neighbour_of link.neighbours q)) (λ a c. absurd (Contains-nil a c))

pub down_puts : (l : ℕ) (s t : AreaValue) (out : OutputsValue) → t ≡ link_changed link_down l s → PutsOut (λ o. Quiet s o t) out out
down_puts l s t out state = by (slice_get s.links l) refl state
  where
    by : (o : Option LinkValue) → slice_get s.links l ≡ o → t ≡ some_changed o link_down l s → PutsOut (λ o. Quiet s o t) out out
    by None at state = puts_nothing (λ o. Quiet s o t) out (same_quiet s t state)
    by (Some link) at state =
        puts_nothing (λ o. Quiet s o t) out
        (one_quiet l link (link_down link) [] s _ t (one_link l link (link_down link) s.next_dd s.sent [] s t at state nothing_read) (down_quiet s link) (none_known s))

-- ---- a tick

pub timers_put : (s t : AreaValue) (out : OutputsValue) → AreRising s.links → t ≡ record s { links = map link_timed s.links } → PutsOut (λ o. Quiet s o t) out out
timers_put s t out rising state =
    silent_links_put link_timed s t out (ap (λ (a : AreaValue). a.links) state) (subst (λ a. ChangesLinks s a) (sym state) refl)
    (λ l link at. link_quiet s link (link_timed link) (λ q. timers_go link.neighbours q (rising l link at)) (λ a c. c))

pub due_hellos_put : (s t : AreaValue) (out out' : OutputsValue) → AreReadAsSent out'.sent → OnEachLink hello_sent (hello_out (context_of s)) s out out' t → PutsOut (λ o. Quiet s o t) out out'
due_hellos_put s t out out' read is =
    all_links_put hello_sent (flat_from (hello_out (context_of s)) 0 s.links) s t out out' (ap (λ (a : AreaValue). a.links) is.state) (subst (λ a. ChangesLinks s a) (sym is.state) refl) is.outputs read
    (λ l link at. link_quiet s link (hello_sent link) (λ q. same_goes (neighbour_of link.neighbours q)) (λ h c. c))
    (links_known s (hello_out (context_of s)) (λ k link is_in. let due = not (is_down link.iface.state) && nat_le link.iface.hello_in 1 in bare_known s k (hello_ticked link.iface) (packet_if due (hello_packet link.iface link.neighbours)) (hello_if due link.iface link.neighbours)))
