use Rattle.std.proofs.Common.{◌≡◌, length}
use Rattle.std.specs.Prelude.{find, reverse}
use Rattle.std.specs.List.{enumerate_from}
use Rattle.ospf_views.specs.Offered.{is_of_kind, last_of_kind}
use Rattle.ospf_views.proofs.offered.last_misfit.Given as goal

-- the last one is among those that are left
abbrev pub invariant-loop-datagram : goal.invariant-loop-datagram
invariant-loop-datagram l =
    find (is_of_kind l.world l.place.0 l.place.1 l.from l.kind) (reverse (enumerate_from 0 l.left)) ≡ last_of_kind l.world l.place.0 l.place.1 l.from l.kind

abbrev pub decreases-loop-datagram : goal.decreases-loop-datagram
decreases-loop-datagram l = length l.left
