use Rattle.std.proofs.Common.{take}
use Rattle.std.specs.Fmt.{HasWritten, IsPlainFormatter}
use Rattle.std.specs.List.{flat_map}
use Rattle.ospf_views.specs.Waits.{request_line}
use Rattle.ospf_views.proofs.waits.write_named.Given as goal

-- the LSAs so far are named
abbrev pub invariant-loop-header : goal.invariant-loop-header
invariant-loop-header g l =
    IsPlainFormatter l.fn.f → HasWritten g.W.Write.write_str_gives l.fn.f (flat_map request_line (take l.header-index l.headers)) l.f
