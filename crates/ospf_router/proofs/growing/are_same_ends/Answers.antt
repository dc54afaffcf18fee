use Rattle.std.proofs.lemmas.Slice.Eq.{slice_eq-Decides}
use Rattle.ospf_router.proofs.SameEnds.{ends_decide}
use Rattle.ospf_router.proofs.growing.are_same_ends.Goals as goal

pub returns : goal.returns
returns c = λ t. (slice_eq-Decides ends_decide c.args.before.now c.args.after.now c.eq.result c.eq.ensures).0 t
