use Rattle.ospf_files.proofs.Written.{piece_begun, piece_written, whatever}
use Rattle.ospf_run.specs.Printed.{drops_of}
use Rattle.ospf_run.proofs.extras.print_drops.Goals as goal

pub loop-one-preserved : goal.loop-one-preserved
loop-one-preserved g c =
    piece_written (drops_of c.args.router) _ _ _ c.args.drops.now c.loop-one.one-index c.one-item.result c.loop-one-test.true c.one-item.is
    c.loop-one.invariant c.in_ok-print_drop.ensures.printed

pub returns-in_err-print_drop-clause-begun : goal.returns-in_err-print_drop-clause-begun
returns-in_err-print_drop-clause-begun g c =
    whatever _ (piece_begun (drops_of c.args.router) _ _ _ c.args.drops.now c.loop-one.one-index c.one-item.result c.loop-one-test.true c.one-item.is
    c.loop-one.invariant c.in_err-print_drop.ensures.begun)
