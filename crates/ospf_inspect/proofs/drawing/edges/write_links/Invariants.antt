use Rattle.std.proofs.Common.{◌≡◌, ◌++◌}
use Rattle.std.specs.Fmt.{HasWritten, IsPlainFormatter}
use Rattle.ospf_lsa.specs.Lsa.{links_of}
use Rattle.ospf_inspect.specs.AreaDrawing.Graph.{drawn_link_lines}
use Rattle.ospf_inspect.proofs.drawing.edges.write_links.Given as goal

-- the links so far are written
abbrev pub invariant-loop-link : goal.invariant-loop-link
invariant-loop-link g l = record {
  walked : links_of l.fn.lsa ≡ l.yielded ++ l.link-iterator;
  written : IsPlainFormatter l.fn.f → HasWritten g.W.Write.write_str_gives l.fn.f (drawn_link_lines l.fn.listing l.fn.router.0 (links_of l.fn.lsa) l.yielded) l.f;
}
