use Rattle.std.proofs.Common.{◌∙◌, refl, subst, sym}
use Rattle.ospf_neighbour.specs.Lists.{key_unlisted}
use Rattle.ospf_neighbour.specs.Neighbours.{AreNeighbours}
use Rattle.ospf_neighbour.proofs.NeighbourLemmas.{AreNeighbours-map, AreNeighbours-written}
use Rattle.ospf_neighbour.proofs.neighbours.Neighbours.unlist_key.Goals as goal

pub invariant_of-self : goal.invariant_of-self
invariant_of-self c =
    let before = subst AreNeighbours (sym c.deref_mut.ensures.value) c.self.invariant in
    let after = AreNeighbours-map (key_unlisted c.args.key.now) (λ n. refl) _ before in
    AreNeighbours-written c.self.inside.all.items c.unlist_key_of.new.all c.self.inside.all.len (c.unlist_key_of.auto.all ∙ c.deref_mut.ensures.len) (subst AreNeighbours (sym c.unlist_key_of.ensures) after)
