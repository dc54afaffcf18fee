use Rattle.std.proofs.Common.{◌≡◌}
use Rattle.ospf_router.specs.AreaStep.Puts.{headers_met}
use Rattle.ospf_router.proofs.step.datagrams.take_headers.Given as goal

-- the headers that are left are still to be met
abbrev pub invariant-loop-header : goal.invariant-loop-header
invariant-loop-header l = headers_met l.from l.header-iterator l.area ≡ headers_met l.from l.fn.headers l.fn.area
