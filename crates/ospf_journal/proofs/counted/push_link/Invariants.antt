use Rattle.std.proofs.Common.{◌≡◌, ◌++◌, flat_map, string_bytes, take}
use Rattle.ospf_journal.specs.Counted.{cause_line, causes}
use Rattle.ospf_journal.proofs.counted.push_link.Given as goal

-- the lines of the causes so far
abbrev pub invariant-loop-cause : goal.invariant-loop-cause
invariant-loop-cause l = string_bytes l.lines ≡ string_bytes l.initial.lines ++ flat_map (cause_line (l.link, l.counts)) (take l.cause-index causes)
