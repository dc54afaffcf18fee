use Rattle.std.proofs.Common.{arith}
use Rattle.ospf_sim.proofs.Pieces.{all_taken}
use Rattle.ospf_sim.proofs.console.read_piece.Goals as goal

pub returns-in-Ok-clause-read : goal.returns-in-Ok-clause-read
returns-in-Ok-clause-read g c =
    let bytes = rw c.clear.ensures.items at c.in-Ok.ensures.bytes in
    record {
      some = omega (arith, c.read_until.new.buf.ok.0, c.in-Ok.ensures.ok);
      stops = rw c.clear.ensures.items at c.in-Ok.ensures.stops;
      taken = rw c.clear.ensures.items at c.in-Ok.ensures.none_lost;
      ends = λ unended. all_taken (g.R.Read.remaining c.args.input.now) c.read_until.new.buf.items bytes unended;
    }
