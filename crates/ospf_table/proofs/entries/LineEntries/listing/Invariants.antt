use Rattle.std.proofs.Common.{◌≡◌, ◌++◌}
use Rattle.ospf_table.proofs.entries.LineEntries.listing.Given as goal

abbrev pub invariant-loop-lsa : goal.invariant-loop-lsa
invariant-loop-lsa l = l.fn.self ≡ l.listing ++ l.lsa-iterator
