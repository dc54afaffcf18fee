-- The datagrams that a round offers to a router, as lines of a script that deliver them.
use Rattle.std.specs.Prelude.{◌==◌, ℕ, Bool, false, [], ◌++◌, Option, None, Some, codes, decimal, filter, flat_map, reverse, slice_get, take, if◌then◌else◌}
use Rattle.std.specs.List.{enumerate_from, list_any}
use Rattle.ospf_area.specs.State.{AreaValue}
use Rattle.ospf_base.specs.Text.{number_text}
use Rattle.ospf_base.specs.declared.ids.RouterId.{RouterId}
use Rattle.ospf_base.specs.declared.event.event.WorldEvent.{WorldEvent}
use Rattle.ospf_base.specs.declared.event.event.WorldEvent.TheVariants as event
use Rattle.ospf_world.specs.declared.logs.Datagram.{Datagram}
use Rattle.ospf_journal.specs.Causes.{cause_of}
use Rattle.ospf_script.specs.Words.{Text}
use Rattle.ospf_router.specs.AreaStep.Step as laws
use Rattle.ospf_router.specs.AreaStep.Text.{dropped_text}
use Rattle.ospf_router.specs.declared.step.dropped.Dropped.{Dropped}
use Rattle.ospf_world.specs.Rounds.{offers_of}
use Rattle.ospf_world.specs.Worlds.{WorldValue}

-- the name of a packet's type (RFC 2328, appendix A.3.1)
abbrev pub kind_name : ℕ → Text
kind_name kind =
    if kind == 1 then codes "Hello"
    else if kind == 2 then codes "Database Description"
    else if kind == 3 then codes "Link State Request"
    else if kind == 4 then codes "Link State Update"
    else if kind == 5 then codes "Link State Acknowledgment"
    else codes "packet"

-- by the second byte, if there is one
abbrev pub kind_words : Option ℕ → Text
kind_words None = codes "packet"
kind_words (Some kind) = kind_name kind

-- why it would be dropped, if it would, and the end of the line
abbrev pub cause_words : Option Dropped → Text
cause_words None = codes "\n"
cause_words (Some cause) = codes ", would be dropped: " ++ dropped_text cause ++ codes "\n"

-- the line of a script that delivers a datagram, and after a # what the datagram is, and of whom
abbrev pub offer_text : ℕ → RouterId → ℕ → Text → RouterId → Option Dropped → Text
offer_text number router link kind from cause =
    codes "deliver " ++ decimal number ++ codes " " ++ number_text router.0 ++ codes " "
    ++ decimal link ++ codes " # " ++ kind ++ codes " of "
    ++ number_text from.0 ++ cause_words cause

-- a delivery to this router
abbrev pub is_offer_to : RouterId → WorldEvent → Bool
is_offer_to r (event.Deliver d q l) = q.0 == r.0
is_offer_to r _ = false

-- a delivery, shown by the datagram and by what the router would do with it
abbrev pub delivery_line : Option AreaValue → Datagram → WorldEvent → Text
delivery_line area g (event.Deliver d q l) =
    offer_text d q l (kind_words (slice_get g.sent.bytes 1)) g.router
    (cause_of (laws.Event.Datagram l g.sent.source g.sent.destination g.sent.bytes) area)
delivery_line area g _ = []

-- its line, where it is to this router
abbrev pub offer_line : Option AreaValue → RouterId → Datagram → WorldEvent → Text
offer_line area r g e = if is_offer_to r e then delivery_line area g e else []

-- a round offers the datagram of this number to the router
abbrev pub has_offer_to : WorldValue → RouterId → ℕ × Datagram → Bool
has_offer_to w r e = list_any (is_offer_to r) (offers_of w.slots e.0 e.1)

-- those deliveries
abbrev pub offer_lines : WorldValue → RouterId → Option AreaValue → ℕ × Datagram → Text
offer_lines w r area e = flat_map (offer_line area r e.1) (offers_of w.slots e.0 e.1)

-- of the datagrams that a round offers to the router the last so many, the newest first
abbrev pub datagram_lines : WorldValue → RouterId → ℕ → Option AreaValue → Text
datagram_lines w r most area =
    flat_map (offer_lines w r area)
    (take most (filter (has_offer_to w r) (reverse (enumerate_from 0 w.logs.datagrams))))
