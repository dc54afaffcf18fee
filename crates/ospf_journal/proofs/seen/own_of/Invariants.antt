use Rattle.std.proofs.Common.{◌≡◌, map, take}
use Rattle.ospf_journal.specs.Seen.{seen_own}
use Rattle.ospf_journal.proofs.seen.own_of.Given as goal

abbrev pub invariant-loop-numbered : goal.invariant-loop-numbered
invariant-loop-numbered l = l.own.items ≡ map (seen_own l.database) (take l.numbered-index l.numbering)
