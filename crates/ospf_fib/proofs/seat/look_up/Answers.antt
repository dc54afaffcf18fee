use Rattle.ospf_fib.proofs.Kept.{enters}
use Rattle.ospf_fib.proofs.seat.look_up.Goals as goal

pub enter_as-requires : goal.enter_as-requires
enter_as-requires c = enters _ _
