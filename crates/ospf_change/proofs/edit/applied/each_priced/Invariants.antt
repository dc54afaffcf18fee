use Rattle.std.proofs.Common.{◌≡◌, map, take}
use Rattle.ospf_change.specs.Edit.Change.{priced_link}
use Rattle.ospf_change.proofs.edit.applied.each_priced.Given as goal

abbrev pub invariant-loop-link : goal.invariant-loop-link
invariant-loop-link l = l.new.items ≡ map (priced_link l.change l.links) (take l.link-index l.links)
