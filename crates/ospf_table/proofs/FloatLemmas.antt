-- What is told of failures holds no float.
use Rattle.std.proofs.Common.{◌≡◌, ℕ, Bool, true, false, List, [], ◌∷◌, map, refl}
use Rattle.std.specs.Prelude.{◌^◌, codes, decimal, if◌then◌else◌}
use Rattle.std.specs.Bool.{nat_lt}
use Rattle.serde_json.specs.Data.{Data, Members, number, string, unsigned}
use Rattle.serde_json.specs.View.{items_of}
use Rattle.serde_json.specs.Written.{has_float, items_have_float, members_have_float}
use Rattle.ospf_base.specs.declared.ids.RouterId.{RouterId}
use Rattle.ospf_graph.specs.Text.{hop_text}
use Rattle.ospf_graph.specs.declared.hop.NextHop.{NextHop}
use Rattle.ospf_graph.specs.declared.route.Route.{Route}
use Rattle.ospf_whatif.specs.declared.failure.AreaFailure.{AreaFailure}
use Rattle.ospf_whatif.specs.declared.effect.Loss.{Loss}
use Rattle.ospf_whatif.specs.declared.effect.Loss.TheVariants.{Gone, Cut, Dearer, Moved}
use Rattle.ospf_whatif.specs.declared.effect.RouteChange.{RouteChange}
use Rattle.ospf_table.specs.Objects.{change_data, count_data, counted_members, loss_data, lost_data, reach_data, turned_data}

-- an array of values without floats
pub items_none : {X : Type 0} (f : X → Data) → ((x : X) → has_float (f x) ≡ false) → (xs : List X) → items_have_float (items_of (map f xs)) ≡ false
items_none f none [] = refl
items_none f none (x ∷ xs) = rw (none x) (items_none f none xs)

-- ---- a route that changes

reach_none : (r : Route) → has_float (reach_data r) ≡ false
reach_none r = rw (items_none (λ (hop : NextHop). string (hop_text hop)) (λ hop. refl) r.hops) refl

lost_none : (router : RouterId) (before : Route) (loss : List ℕ) → has_float (lost_data router before loss) ≡ false
lost_none router before loss = rw (reach_none before) refl

turned_none : (router : RouterId) (before after : Route) (loss : List ℕ) → has_float (turned_data router before after loss) ≡ false
turned_none router before after loss = rw (reach_none after, reach_none before) refl

loss_none : (router : RouterId) (before : Route) (loss : Loss) → has_float (loss_data router before loss) ≡ false
loss_none router before Gone = lost_none router before (codes "gone")
loss_none router before Cut = lost_none router before (codes "cut")
loss_none router before (Dearer after) = turned_none router before after (codes "cost")
loss_none router before (Moved after) = turned_none router before after (codes "hops")

pub change_none : (router : RouterId) (c : RouteChange) → has_float (change_data router c) ≡ false
change_none router c = loss_none router c.before c.loss

-- ---- a failure

count_none : (n : ℕ) → has_float (count_data n) ≡ false
count_none n = go (nat_lt n (2 ^ 64))
  where
    go : (small : Bool) → has_float (if small then number (unsigned n) else string (decimal n)) ≡ false
    go true = refl
    go false = refl

pub counted_none : (failure : AreaFailure) (cut gone cost hops : ℕ) (rest : Members) → members_have_float rest ≡ false
    → members_have_float (counted_members failure cut gone cost hops rest) ≡ false
counted_none failure cut gone cost hops rest none = rw (count_none cost, count_none cut, count_none gone, count_none hops, none) refl

-- texts
pub texts_none : (texts : List (List ℕ)) → items_have_float (items_of (map string texts)) ≡ false
texts_none texts = items_none string (λ t. refl) texts
