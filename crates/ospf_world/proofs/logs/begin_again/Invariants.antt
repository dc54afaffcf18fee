use Rattle.std.proofs.Common.{◌≡◌, take, if◌then◌else◌}
use Rattle.ospf_base.specs.declared.ids.LsaKey.{LsaKey}
use Rattle.ospf_world.specs.declared.logs.Run.{Run}
use Rattle.ospf_lsdb.specs.Moments.{among}
use Rattle.ospf_world.specs.Logs.{run_of}
use Rattle.ospf_world.proofs.logs.begin_again.Given as goal

abbrev pub invariant-loop-key : goal.invariant-loop-key
invariant-loop-key l = (first : Run) (key : LsaKey) → run_of first l.later.items key ≡ (if among (take l.key-index l.ended) key then l.run else run_of first l.initial.later.items key)
