use Rattle.std.proofs.Common.{◌≡◌, take}
use Rattle.std.specs.Prelude.{fold}
use Rattle.ospf_commands.specs.Settling.{longer}
use Rattle.ospf_commands.proofs.settle.longer_in.Given as goal

abbrev pub invariant-loop-interface : goal.invariant-loop-interface
invariant-loop-interface l = l.longest ≡ fold longer l.initial.longest (take l.interface-index l.interfaces)
