use Rattle.std.proofs.lemmas.Slice.Eq.{slice_eq-Decides}
use Rattle.ospf_spf.proofs.SameRoute.{hops_decide}
use Rattle.ospf_fib.proofs.index.numbering.are_same.Goals as goal

pub returns : goal.returns
returns c = slice_eq-Decides hops_decide c.args.a.now c.args.b.now c.eq.result c.eq.ensures
