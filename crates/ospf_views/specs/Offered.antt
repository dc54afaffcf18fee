-- What a link waits for, what of the last datagram that was sent to it would be dropped, and what
-- does not fit between its ends.
use Rattle.std.specs.Prelude.{◌==◌, ◌&&◌, ◌++◌, ℕ, Bool, true, false, [], Option, None, Some, find, option_map, reverse, slice_get}
use Rattle.std.specs.List.{enumerate_from, list_any}
use Rattle.ospf_area.specs.State.{AreaValue}
use Rattle.ospf_base.specs.declared.ids.RouterId.{RouterId}
use Rattle.ospf_base.specs.declared.event.event.WorldEvent.{WorldEvent}
use Rattle.ospf_base.specs.declared.event.event.WorldEvent.TheVariants as event
use Rattle.ospf_world.specs.declared.logs.Datagram.{Datagram}
use Rattle.ospf_script.specs.Words.{Text}
use Rattle.ospf_views.specs.Drops.{drop_reason}
use Rattle.ospf_views.specs.Misfits.{sender_misfit}
use Rattle.ospf_views.specs.Waits.{why_of}
use Rattle.ospf_world.specs.Rounds.{offers_of}
use Rattle.ospf_world.specs.Worlds.{WorldValue}

-- the datagram is of this router, where one is asked for
abbrev pub is_sent_by : Option RouterId → Datagram → Bool
is_sent_by None g = true
is_sent_by (Some q) g = g.router.0 == q.0

-- a delivery to this link
abbrev pub is_delivery_to : RouterId → ℕ → WorldEvent → Bool
is_delivery_to r link (event.Deliver d q l) = (q.0 == r.0) && (l == link)
is_delivery_to r link _ = false

-- a round offers the datagram of this number to the link
abbrev pub is_for_link : WorldValue → RouterId → ℕ → Option RouterId → ℕ × Datagram → Bool
is_for_link w r link from e =
    is_sent_by from e.1 && list_any (is_delivery_to r link) (offers_of w.slots e.0 e.1)

-- the last one of which that holds
abbrev pub last_to : WorldValue → RouterId → ℕ → Option RouterId → Option (ℕ × Datagram)
last_to w r link from =
    find (is_for_link w r link from) (reverse (enumerate_from 0 w.logs.datagrams))

-- nothing where there is none
abbrev pub drop_in : Option AreaValue → ℕ → Option (ℕ × Datagram) → Text
drop_in area link None = []
drop_in area link (Some e) = drop_reason area link e.1.sent

-- why the router would drop it, if it would
abbrev pub last_drop : WorldValue → RouterId → ℕ → Option RouterId → Option AreaValue → Text
last_drop w r link from area = drop_in area link (last_to w r link from)

-- ---- what does not fit

-- the type of a packet, by its second byte (RFC 2328, section A.3.1)
abbrev pub has_kind : ℕ → Option ℕ → Bool
has_kind kind None = false
has_kind kind (Some k) = k == kind

-- a round offers the datagram of this number to the link, and it is a packet of this type
abbrev pub is_of_kind : WorldValue → RouterId → ℕ → Option RouterId → ℕ → ℕ × Datagram → Bool
is_of_kind w r link from kind e =
    has_kind kind (slice_get e.1.sent.bytes 1) && is_for_link w r link from e

-- the last one of which that holds
abbrev pub last_of_kind : WorldValue → RouterId → ℕ → Option RouterId → ℕ → Option (ℕ × Datagram)
last_of_kind w r link from kind =
    find (is_of_kind w r link from kind) (reverse (enumerate_from 0 w.logs.datagrams))

-- nothing where there is none
abbrev pub misfit_in : Option AreaValue → ℕ → Option (ℕ × Datagram) → Text
misfit_in area link None = []
misfit_in area link (Some e) = sender_misfit area link e.1.sent

-- what the last packet of a type says that does not fit, though it is not dropped for it
abbrev pub last_misfit : WorldValue → RouterId → ℕ → Option RouterId → ℕ → Option AreaValue → Text
last_misfit w r link from kind area = misfit_in area link (last_of_kind w r link from kind)

-- ---- all of it

-- why the last datagram would be dropped, and what does not fit by the last Hello and the last
-- Database Description
abbrev pub last_words : WorldValue → RouterId → ℕ → Option RouterId → Option AreaValue → Text
last_words w r link from area =
    (last_drop w r link from area ++ last_misfit w r link from 1 area)
    ++ last_misfit w r link from 2 area

-- what the link waits for, or a Router ID on it, and that; none where there is no such link
abbrev pub why_lines : WorldValue → RouterId → ℕ → Option RouterId → Option AreaValue → Option Text
why_lines w r link from area =
    option_map (λ waits. waits ++ last_words w r link from area) (why_of area link from)
