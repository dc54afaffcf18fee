use Rattle.ospf_files.proofs.Written.{piece_begun, piece_written, whatever}
use Rattle.ospf_views.specs.Shown.{neighbour_line}
use Rattle.ospf_views.proofs.views.write_link.Goals as goal

pub loop-neighbour-preserved : goal.loop-neighbour-preserved
loop-neighbour-preserved g c =
    piece_written (neighbour_line c.args.link) _ _ _ _ _ _ c.loop-neighbour-test.true c.neighbour-item.is c.loop-neighbour.invariant
    c.in_ok-write_neighbour.ensures.written

pub returns-in_err-write_neighbour-clause-begun : goal.returns-in_err-write_neighbour-clause-begun
returns-in_err-write_neighbour-clause-begun g c =
    whatever _ (piece_begun (neighbour_line c.args.link) _ _ _ _ _ _ c.loop-neighbour-test.true c.neighbour-item.is c.loop-neighbour.invariant
    c.in_err-write_neighbour.ensures.begun)
