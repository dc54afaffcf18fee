-- The values of a table hold no float, and lookups that are made one by one.
use Rattle.std.proofs.Common.{◌≡◌, ◌∙◌, ◌+◌, ◌<◌, ◌++◌, ◌∷◌, ℕ, List, [], false, ap, get_or, inl, inr, length, map, refl, subst, sym, take}
use Rattle.std.proofs.lemmas.List.{map-append, take_more}
use Rattle.std.proofs.lemmas.Slice.Zip.{all_zipped_more}
use Rattle.serde_json.specs.Data.{Data}
use Rattle.serde_json.specs.View.{items_of, view}
use Rattle.serde_json.specs.Written.{has_float, items_have_float}
use Rattle.serde_json.specs.declared.value.Value.{Value}
use Rattle.ospf_base.specs.declared.ids.Addr.{Addr}
use Rattle.ospf_base.specs.declared.ids.RouterId.{RouterId}
use Rattle.ospf_graph.specs.declared.hop.NextHop.{NextHop}
use Rattle.ospf_graph.specs.declared.hop.NextHop.TheVariants.{Attached, PointToPoint, Lan}
use Rattle.ospf_graph.specs.declared.route.Route.{Route}
use Rattle.ospf_table.proofs.FloatLemmas.{items_none}
use Rattle.ospf_table.specs.Values.{AreFound, IsFoundBy, IsTableData, hop_object, route_object}

-- ---- floats

hop_none : (hop : NextHop) → has_float (hop_object hop) ≡ false
hop_none Attached = refl
hop_none (PointToPoint local router) = refl
hop_none (Lan local router address) = refl

route_none : (r : Route) → has_float (route_object r) ≡ false
route_none r = rw (items_none hop_object hop_none r.hops) refl

found_none : (table : List Route) (address : Addr) (d : Data) → IsFoundBy table address d → has_float d ≡ false
found_none table address d (inl none) = ap has_float none.1
found_none table address d (inr best) = ap has_float best.2 ∙ rw (route_none best.0) refl

lookups_none : (table : List Route) (addresses : List Addr) (ds : List Data) → AreFound table addresses ds → items_have_float (items_of ds) ≡ false
lookups_none table [] [] are = refl
lookups_none table [] (d ∷ ds) are = absurd are
lookups_none table (address ∷ addresses) [] are = absurd are
lookups_none table (address ∷ addresses) (d ∷ ds) are = rw (found_none table address d are.0) (lookups_none table addresses ds are.1)

pub table_none : (table : List Route) (root : RouterId) (addresses : List Addr) (d : Data) → IsTableData table root addresses d → has_float d ≡ false
table_none table root addresses d is = ap has_float is.2 ∙ rw (lookups_none table addresses is.0 is.1, items_none route_object route_none table) refl

-- ---- lookups

-- what is said of one address more
pub found_next : (table : List Route) (addresses : List Addr) (i : ℕ) (d : Addr) (values more : List Value) (value : Value) → i < length addresses
    → more ≡ values ++ value ∷ [] → AreFound table (take i addresses) (map view values) → IsFoundBy table (get_or addresses i d) (view value)
    → AreFound table (take (i + 1) addresses) (map view more)
found_next table addresses i d values more value within more_is are is =
    subst (λ (ds : List Data). AreFound table (take (i + 1) addresses) ds) (sym (ap (map view) more_is ∙ map-append view values (value ∷ [])))
    (subst (λ (front : List Addr). AreFound table front (map view values ++ view value ∷ [])) (sym (take_more addresses i d within))
    (all_zipped_more (IsFoundBy table) (take i addresses) (map view values) (get_or addresses i d) (view value) are is))
