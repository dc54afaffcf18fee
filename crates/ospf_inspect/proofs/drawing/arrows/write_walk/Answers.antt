use Rattle.std.proofs.Common.{◌≡◌, ◌++◌, ◌∷◌, ◌∙◌, [], ap, sym, refl, flat_map}
use Rattle.std.specs.Prelude.{zip}
use Rattle.std.proofs.lemmas.Grind.{put_two}
use Rattle.std.proofs.lemmas.List.{append_assoc}
use Rattle.ospf_inspect.specs.AreaDrawing.Graph.{step_line, steps_of}
use Rattle.ospf_inspect.proofs.AreaDrawing.WalkFacts.{steps_more}
use Rattle.ospf_inspect.proofs.drawing.arrows.write_walk.Goals as goal

pub loop-from-preserved : goal.loop-from-preserved
loop-from-preserved g c = λ plain.
    let so = c.loop-from.invariant plain in
    let stepped = flat_map step_line (zip (c.in-Some.from.now ∷ []) c.in-Some.behind.now) in
    let behind = flat_map step_line (steps_of c.in-Some.behind.now) in
    let more : flat_map step_line (steps_of c.loop-from.rest.now) ≡ stepped ++ behind =
    ap (λ rs. flat_map step_line (steps_of rs)) c.in-Some.ensures.cases.0 ∙ steps_more step_line c.in-Some.from.now c.in-Some.behind.now in (
      so.0 ++ stepped,
      put_two _ _ _ _ so.0 stepped _ so.1 (c.in_ok-write_step.ensures so.1.plain refl) refl,
      append_assoc so.0 stepped behind ∙ ap (λ t. so.0 ++ t) (sym more) ∙ so.2,
    )
