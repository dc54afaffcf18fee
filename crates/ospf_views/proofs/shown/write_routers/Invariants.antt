use Rattle.std.proofs.Common.{take}
use Rattle.std.specs.Fmt.{HasWritten, IsPlainFormatter}
use Rattle.ospf_views.specs.Texts.{routers_text}
use Rattle.ospf_views.proofs.shown.write_routers.Given as goal

-- the routers so far are written
abbrev pub invariant-loop-router : goal.invariant-loop-router
invariant-loop-router g l = IsPlainFormatter l.fn.f → HasWritten g.W.Write.write_str_gives l.fn.f (routers_text (take l.router-index l.routers)) l.f
