use Rattle.std.proofs.Common.{ℕ, List, ◌++◌, ap, append_assoc, codes, refl, sym, ◌∙◌}
use Rattle.std.proofs.lemmas.Grind.{put_three}
use Rattle.ospf_base.specs.Text.{number_text}
use Rattle.ospf_inspect.proofs.AreaDrawing.Drawn.{four_pieces}
use Rattle.ospf_inspect.specs.AreaDrawing.Graph.{router_node, stub_texts}
use Rattle.ospf_inspect.proofs.drawing.boxes.write_router.Goals as goal

pub returns : goal.returns
returns g c =
    λ plain ok.
    let node = router_node c.args.router.0 in
    let name = number_text c.args.router.0 in
    let begin = codes " [shape=box, label=\"" in
    let stubs = stub_texts c.args.links in
    let end = codes "\"];\n" in
    let first = c.in_ok-write.ensures.writes plain refl in
    let second = c.in_ok-write_stubs.ensures first.plain refl in
    let third = c.write_str.ensures.writes second.plain ok in
    put_three _ _ _ _ _ _ _ _ _ first second third
    (ap (λ (t : List ℕ). t ++ (stubs ++ end)) (four_pieces (codes "  ") node begin name) ∙ sym (append_assoc (codes "  " ++ node ++ begin ++ name) stubs end))
