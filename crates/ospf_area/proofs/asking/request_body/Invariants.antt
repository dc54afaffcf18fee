use Rattle.std.proofs.Common.{◌≡◌, map, take}
use Rattle.ospf_area.proofs.Words.{entry_for}
use Rattle.ospf_area.proofs.asking.request_body.Given as goal

abbrev pub invariant-loop-header : goal.invariant-loop-header
invariant-loop-header l = l.entries.items ≡ map entry_for (take l.header-index l.header-items)
