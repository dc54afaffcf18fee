use Rattle.std.proofs.Common.{take}
use Rattle.std.specs.Prelude.{flat_map}
use Rattle.std.specs.Io.KnownBytes.{Appends}
use Rattle.ospf_run.specs.Printed.{drops_of}
use Rattle.ospf_run.proofs.extras.print_drops.Given as goal

-- the drops so far are printed
abbrev pub invariant-loop-one : goal.invariant-loop-one
invariant-loop-one g l = Appends (g.O.Write.contents l.fn.out) (g.O.Write.contents l.out) (flat_map (drops_of l.router) (take l.one-index l.drops))
