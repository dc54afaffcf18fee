use Rattle.std.proofs.Common.{◌≡◌, ◌++◌, map, take, drop}
use Rattle.ospf_area.specs.Updates.Acks.{delayed_out_on}
use Rattle.ospf_area.proofs.Updates.Words.{undelayed_link}
use Rattle.ospf_area.specs.Places.{flat_from}
use Rattle.ospf_area.specs.Sending.{and_sends}
use Rattle.ospf_area.proofs.update.acks.send_delayed.Given as goal

abbrev pub invariant-loop-number : goal.invariant-loop-number
invariant-loop-number l = record {
  undelayed : l.links ≡ map undelayed_link (take l.number l.initial.links) ++ drop l.number l.initial.links;
  sent : l.out ≡ and_sends l.initial.out (flat_from (delayed_out_on l.own) 0 (take l.number l.initial.links));
}
