use Rattle.std.proofs.Common.{◌≡◌, not, take}
use Rattle.std.specs.List.{list_any}
use Rattle.ospf_check.specs.Area.{is_fault}
use Rattle.ospf_check.proofs.json.are_notes.Given as goal

-- whether those so far are notes
abbrev pub invariant-loop-finding : goal.invariant-loop-finding
invariant-loop-finding l = l.sound ≡ not (list_any is_fault (take l.finding-index l.findings))
