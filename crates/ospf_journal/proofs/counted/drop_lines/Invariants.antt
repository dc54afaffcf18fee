use Rattle.std.proofs.Common.{◌≡◌, flat_map, string_bytes, take}
use Rattle.std.specs.List.{enumerate_from}
use Rattle.ospf_journal.specs.Counted.{link_lines}
use Rattle.ospf_journal.proofs.counted.drop_lines.Given as goal

-- the lines of the links so far
abbrev pub invariant-loop-link : goal.invariant-loop-link
invariant-loop-link l = string_bytes l.lines ≡ flat_map link_lines (take l.link (enumerate_from 0 l.links))
