use Rattle.std.proofs.Common.{◌≡◌, take}
use Rattle.std.specs.Prelude.{fold}
use Rattle.ospf_commands.specs.Settling.{longer_in}
use Rattle.ospf_originate.specs.Numbers.{min_ls_interval}
use Rattle.ospf_commands.proofs.settle.longest_wait.Given as goal

abbrev pub invariant-loop-slot : goal.invariant-loop-slot
invariant-loop-slot l = l.longest ≡ fold longer_in min_ls_interval (take l.slot-index l.slots)
