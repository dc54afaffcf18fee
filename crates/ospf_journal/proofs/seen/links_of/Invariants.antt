use Rattle.std.proofs.Common.{◌≡◌, map, take}
use Rattle.ospf_journal.specs.Seen.{seen_link}
use Rattle.ospf_journal.proofs.seen.links_of.Given as goal

abbrev pub invariant-loop-link : goal.invariant-loop-link
invariant-loop-link l = l.seen.items ≡ map seen_link (take l.link-index l.links)
