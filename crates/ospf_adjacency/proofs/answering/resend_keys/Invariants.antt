use Rattle.std.proofs.Common.{◌≡◌}
use Rattle.ospf_adjacency.proofs.Words.{resent_keys}
use Rattle.ospf_adjacency.proofs.answering.resend_keys.Given as goal

-- the copies of the keys that are left are still to be counted
abbrev pub invariant-loop-key : goal.invariant-loop-key
invariant-loop-key l = resent_keys l.database l.tick l.key-iterator l.neighbour ≡ resent_keys l.database l.tick l.keys.keys l.fn.neighbour
