use Rattle.std.proofs.Common.{take}
use Rattle.std.specs.Fmt.{HasWritten, IsPlainFormatter}
use Rattle.ospf_script.specs.Texts.{spaced_hops_text}
use Rattle.ospf_script.proofs.show.write_hops.Given as goal

-- the hops so far are written
abbrev pub invariant-loop-hop : goal.invariant-loop-hop
invariant-loop-hop g l = IsPlainFormatter l.fn.f → HasWritten g.W.Write.write_str_gives l.fn.f (spaced_hops_text (take l.hop-index l.hops)) l.f
