use Rattle.ospf_script.proofs.Zeros.{hexadecimal_is}
use Rattle.ospf_views.proofs.shown.SumShownDisplay.fmt.Goals as goal

pub returns-clause-writes : goal.returns-clause-writes
returns-clause-writes g c =
    let laid = rw c.laid_out.ensures at c.write.ensures.writes in
    let digits_are = rw c.in_radix.ensures at laid in
    rw (hexadecimal_is 4 c.args.self.now.0) at digits_are
