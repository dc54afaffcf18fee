use Rattle.std.proofs.Common.{◌≡◌, ◌++◌, map, take, drop}
use Rattle.ospf_area.specs.Asking.{turned_link, turn_requests_on}
use Rattle.ospf_area.specs.Places.{flat_from}
use Rattle.ospf_area.specs.Sending.{and_sends}
use Rattle.ospf_area.proofs.asking.advance_requests.Given as goal

abbrev pub invariant-loop-number : goal.invariant-loop-number
invariant-loop-number l = record {
  turned : l.links ≡ map (turned_link l.own) (take l.number l.initial.links) ++ drop l.number l.initial.links;
  sent : l.out ≡ and_sends l.initial.out (flat_from (turn_requests_on l.own) 0 (take l.number l.initial.links));
}
