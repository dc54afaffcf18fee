use Rattle.std.proofs.Common.{◌≡◌, ◌++◌, length, string_bytes}
use Rattle.std.specs.Prelude.{flat_map}
use Rattle.ospf_views.specs.Datagrams.{datagram_lines, has_offer_to, offer_lines}
use Rattle.ospf_views.proofs.LastOffers.{newest}
use Rattle.ospf_views.proofs.datagrams.datagram_lines.Given as goal

-- those that are left are still to be told
abbrev pub invariant-loop-datagram : goal.invariant-loop-datagram
invariant-loop-datagram l =
    string_bytes l.lines ++ flat_map (offer_lines l.world l.to l.router.area) (newest (has_offer_to l.world l.to) l.left l.rest)
    ≡ datagram_lines l.world l.to l.most l.router.area

abbrev pub decreases-loop-datagram : goal.decreases-loop-datagram
decreases-loop-datagram l = length l.rest
