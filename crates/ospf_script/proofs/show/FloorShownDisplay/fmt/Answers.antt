use Rattle.std.proofs.Common.{rules, ◌≡◌, of_z, w32}
use Rattle.ospf_script.proofs.Zeros.{hexadecimal_is}
use Rattle.ospf_script.proofs.show.FloorShownDisplay.fmt.Goals as goal

pub returns-clause-writes : goal.returns-clause-writes
returns-clause-writes g c =
    let same : c.cast_unsigned-bits.result ≡ of_z w32 c.args.self.now.0 = search rules in
    let laid = rw c.laid_out.ensures at c.write.ensures.writes in
    let digits_are = rw c.in_radix.ensures at laid in
    rw (same, hexadecimal_is 8 (of_z w32 c.args.self.now.0)) at digits_are
