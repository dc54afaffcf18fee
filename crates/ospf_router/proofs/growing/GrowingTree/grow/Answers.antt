use Rattle.std.proofs.Common.{List, ℕ, subst, sym}
use Rattle.ospf_graph.specs.EdgeLists.Listed.{advertisements_of}
use Rattle.ospf_graph.specs.Elsewhere.{AreSameBut}
use Rattle.ospf_graph.specs.declared.graph.Vertex.{Vertex}
use Rattle.ospf_lsa.specs.Listing.{IsPut}
use Rattle.ospf_spf.specs.Spared.{SparesBut}
use Rattle.ospf_router.specs.Growing.{GrowingValue, IsTurn}
use Rattle.ospf_router.specs.declared.growing.Turn.{Turn}
use Rattle.ospf_router.proofs.GrowingLemmas.{put_same_but}
use Rattle.ospf_router.proofs.growing.GrowingTree.grow.Goals as goal
use Rattle.ospf_router.proofs.growing.GrowingTree.grow.Goals.{In-Ok-said_of}

turn_of : (c : In-Ok-said_of) → Turn
turn_of c = record { vertex = c.vertex_of-vertex.result; before = c.in-Ok.before; after = c.in-Ok-said_of.after }

is_turn : (c : In-Ok-said_of) → IsTurn c.self.inside.listing c.put.new.self c.self.inside.root c.self.inside.paths c.self.inside.ends.items (turn_of c)
unfolding turn_of
is_turn c =
    let old = c.self.inside.listing in
    let new = c.put.new.self in
    record {
      over = c.self.invariant;
      same = subst (λ (v : Vertex). AreSameBut v (advertisements_of old) (advertisements_of new)) (sym c.vertex_of-vertex.ensures) (put_same_but c.args.lsa old new c.in_ok-put.ensures.ok);
      before_is = c.in-Ok.ensures;
      after_is = c.in-Ok-said_of.ensures;
    }

pub turned-requires : goal.turned-requires
unfolding turn_of
turned-requires c = (c.self.inside.listing, is_turn (goal.at.turned-requires c).In-Ok-said_of)

pub returns-in-Ok-turned-clause-listing : goal.returns-in-Ok-turned-clause-listing
returns-in-Ok-turned-clause-listing c =
    let put = subst (λ (v : GrowingValue). IsPut c.args.lsa v.listing c.put.new.self) c.self.view_is c.in_ok-put.ensures.ok in
    subst (λ (new : List (List ℕ)). IsPut c.args.lsa c.args.self.listing new) (sym c.in-Ok-turned.ensures.listing) put

pub returns-in-Ok-turned-clause-spares : goal.returns-in-Ok-turned-clause-spares
unfolding turn_of
returns-in-Ok-turned-clause-spares c =
    let spared = c.in-Ok-turned.ensures.spares c.self.inside.listing (is_turn (goal.at.returns-in-Ok-turned-clause-spares c).In-Ok-said_of) in
    let new = subst (λ (l : List (List ℕ)). SparesBut c.turned.new.touched.items (advertisements_of c.self.inside.listing) (advertisements_of l) c.self.inside.root) (sym c.in-Ok-turned.ensures.listing) spared in
    subst (λ (v : GrowingValue). SparesBut c.turned.new.touched.items (advertisements_of v.listing) (advertisements_of c.in-Ok-turned.grown.listing) v.root) c.self.view_is new
