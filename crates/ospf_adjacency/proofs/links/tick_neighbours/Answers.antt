use Rattle.std.proofs.Common.{◌≡◌, ◌∙◌, Bool, true, false, cond, not, List, [], ◌∷◌, map, filter, refl, ap, sym}
use Rattle.std.proofs.RetainMut.{retains_is_retain_mut}
use Rattle.std.specs.List.{retain_mut}
use Rattle.ospf_neighbour.specs.Neighbour.{NeighbourValue}
use Rattle.ospf_adjacency.specs.Links.{timed}
use Rattle.ospf_adjacency.proofs.Words.{inactivity_ticked, is_inactive}
use Rattle.ospf_adjacency.proofs.links.tick_neighbours.Goals as goal

timed_if : (b : Bool) (n : NeighbourValue) (kept : List NeighbourValue) → cond b (inactivity_ticked n ∷ map inactivity_ticked kept) (map inactivity_ticked kept) ≡ map inactivity_ticked (cond b (n ∷ kept) kept)
timed_if true n kept = refl
timed_if false n kept = refl

is_timed : (ns : List NeighbourValue) → retain_mut (λ n. not (is_inactive n)) inactivity_ticked ns ≡ timed ns
is_timed [] = refl
is_timed (n ∷ ns) =
    ap (λ (l : List NeighbourValue). cond (not (is_inactive n)) (inactivity_ticked n ∷ l) l) (is_timed ns)
    ∙ timed_if (not (is_inactive n)) n (filter (λ m. not (is_inactive m)) ns)

pub returns : goal.returns
returns c =
    retains_is_retain_mut _ (λ n. not (is_inactive n)) inactivity_ticked (λ s x b t y h.
    let met = h.called.met in
    (met.0 ∙ ap (λ (n : NeighbourValue). not (is_inactive n)) h.shows, sym h.leaves ∙ met.1 ∙ ap inactivity_ticked h.shows)) _ _ _ c.retain_mut.ensures.filtered
    ∙ is_timed c.args.neighbours.now.items
