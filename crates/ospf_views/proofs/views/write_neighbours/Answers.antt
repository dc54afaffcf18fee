use Rattle.std.proofs.Common.{subst}
use Rattle.std.specs.Io.KnownBytes.{Appends}
use Rattle.ospf_files.proofs.Written.{whatever}
use Rattle.ospf_files.specs.Streams.{IsBegun}
use Rattle.ospf_views.specs.Shown.{link_neighbour_lines}
use Rattle.ospf_views.proofs.Pieces.{link_written, links_begun, no_links_written}
use Rattle.ospf_views.proofs.views.write_neighbours.Goals as goal

pub loop-link-init : goal.loop-link-init
loop-link-init g c = no_links_written _ _

pub loop-link-preserved : goal.loop-link-preserved
loop-link-preserved g c =
    link_written c.args.router.now.area _ _ _ c.loop-link.link c.loop-link.invariant
    (subst (λ neighbours. Appends (g.O.Write.contents c.loop-link.out) (g.O.Write.contents c.write_link.new.out) (link_neighbour_lines c.loop-link.link neighbours))
    c.neighbours.ensures c.in_ok-write_link.ensures.written)

pub returns-in_err-write_link-clause-begun : goal.returns-in_err-write_link-clause-begun
returns-in_err-write_link-clause-begun g c =
    whatever _ (links_begun c.args.router.now.area _ _ _ 32 c.loop-link.link c.loop-link-test.true c.loop-link.invariant
    (subst (λ neighbours. IsBegun (g.O.Write.contents c.loop-link.out) (g.O.Write.contents c.write_link.new.out) (link_neighbour_lines c.loop-link.link neighbours))
    c.neighbours.ensures c.in_err-write_link.ensures.begun))
