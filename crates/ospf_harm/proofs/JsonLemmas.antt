-- What failures change as JSON holds no float.
use Rattle.std.proofs.Common.{◌≡◌, ◌==◌, ◌∙◌, ◌+◌, ◌<◌, ℕ, Bool, true, false, List, [], ◌∷◌, ap, ap₂, get_or, length, map, refl, sym, take}
use Rattle.std.proofs.lemmas.List.{append-nil, map_push, take_more}
use Rattle.std.proofs.lemmas.List.Concat.{flat_map-append}
use Rattle.std.specs.Prelude.{◌++◌, codes, filter, flat_map}
use Rattle.serde_json.specs.Data.{Data, Members, array, no_members, put, string}
use Rattle.serde_json.specs.View.{items_of, view}
use Rattle.serde_json.specs.declared.value.Value.{Value}
use Rattle.serde_json.specs.Written.{has_float, items_have_float, members_have_float}
use Rattle.ospf_base.specs.declared.ids.RouterId.{RouterId}
use Rattle.ospf_table.proofs.FloatLemmas.{change_none, counted_none, items_none}
use Rattle.ospf_table.specs.Changes.{totals_of}
use Rattle.ospf_table.specs.Objects.{change_data}
use Rattle.ospf_harm.proofs.ElementLemmas.{element_none, harm_none, put_none}
use Rattle.ospf_harm.specs.Element.{with_element, with_harm}
use Rattle.ospf_harm.specs.declared.harm.Harm.{Harm}
use Rattle.ospf_harm.specs.HarmLines.{harmed_members, report_harm, report_line_data, with_routes}
use Rattle.ospf_harm.specs.Json.{hidden_member, report_data, routes_member, totals_members, with_hidden}
use Rattle.ospf_harm.specs.Reports.{ReportValue}
use Rattle.ospf_harm.specs.Warnings.{hidden_name, hidden_names, is_cause}
use Rattle.ospf_whatif.specs.declared.failure.AreaFailure.{AreaFailure}
use Rattle.ospf_harm.specs.declared.hidden.HiddenCost.{HiddenCost}

pub member_none : (each : Bool) (routes : List Data) (rest : Members) → items_have_float (items_of routes) ≡ false → members_have_float rest ≡ false
    → members_have_float (routes_member each routes rest) ≡ false
member_none true routes rest none last = rw (none, last) refl
member_none false routes rest none last = last

names_none : (hidden : List HiddenCost) → items_have_float (items_of (map (λ h. string (hidden_name h)) hidden)) ≡ false
names_none hidden = items_none (λ (h : HiddenCost). string (hidden_name h)) (λ h. refl) hidden

ends_none : (names : List Data) → items_have_float (items_of names) ≡ false → members_have_float (hidden_member names) ≡ false
ends_none [] none = refl
ends_none (name ∷ names) none = rw none refl

pub hidden_none : (hidden : List HiddenCost) (f : AreaFailure) → members_have_float (hidden_member (hidden_names hidden f)) ≡ false
hidden_none hidden f = ends_none (hidden_names hidden f) (names_none (filter (is_cause f) hidden))

-- where there are names they are put behind the other members
pub put_names : (names : List Value) (before : Members) → (length names == 0) ≡ false
    → put (codes "unknown_costs") (array (items_of (map view names))) before ≡ with_hidden (map view names) before
put_names [] before some = cc
put_names (name ∷ names) before some = refl

report_none : (each : Bool) (root : RouterId) (hidden : List HiddenCost) (r : ReportValue) → has_float (report_data each root hidden r) ≡ false
report_none each root hidden r =
    let t = totals_of r.1 in
    counted_none r.0 t.cut t.gone t.cost t.hops (routes_member each (map (change_data root) r.1) (hidden_member (hidden_names hidden r.0)))
    (member_none each (map (change_data root) r.1) (hidden_member (hidden_names hidden r.0)) (items_none (change_data root) (change_none root) r.1) (hidden_none hidden r.0))

pub reports_none : (each : Bool) (root : RouterId) (hidden : List HiddenCost) (reports : List ReportValue) → items_have_float (items_of (map (report_data each root hidden) reports)) ≡ false
reports_none each root hidden reports = items_none (report_data each root hidden) (report_none each root hidden) reports

-- ---- version 2

pub harmed_none : (f : AreaFailure) (h : Harm) (hidden : List HiddenCost) (ms : Members) → members_have_float ms ≡ false → members_have_float (harmed_members f h hidden ms) ≡ false
harmed_none f h hidden ms none =
    put_none (codes "unknown_costs") (array (items_of (hidden_names hidden f))) (with_harm h (with_element f ms)) (names_none (filter (is_cause f) hidden))
    (harm_none h (with_element f ms) (element_none f ms none))

pub routed_none : (each : Bool) (routes : List Data) (ms : Members) → items_have_float (items_of routes) ≡ false → members_have_float ms ≡ false
    → members_have_float (with_routes each routes ms) ≡ false
routed_none true routes ms routes_none none = put_none (codes "routes") (array (items_of routes)) ms routes_none none
routed_none false routes ms routes_none none = none

pub report_line_none : (each : Bool) (root : RouterId) (hidden : List HiddenCost) (r : ReportValue) → has_float (report_line_data each root hidden r) ≡ false
report_line_none each root hidden r =
    let t = totals_of r.1 in
    let counted : Members = totals_members r.0 t no_members in
    routed_none each (map (change_data root) r.1) (harmed_members r.0 (report_harm r) hidden counted) (items_none (change_data root) (change_none root) r.1)
    (harmed_none r.0 (report_harm r) hidden counted (counted_none r.0 t.cut t.gone t.cost t.hops no_members refl))

-- one value more
pub values_next : {X : Type 0} (f : X → Data) (xs : List X) (i : ℕ) (x : X) (values more : List Value) (value : Value) → i < length xs → x ≡ get_or xs i x → more ≡ values ++ value ∷ []
    → map view values ≡ map f (take i xs) → view value ≡ f x → map view more ≡ map f (take (i + 1) xs)
values_next f xs i x values more value lt is more_is so_far here =
    ap (map view) more_is ∙ map_push view values value ∙ ap₂ (λ (ds : List Data) (d : Data). ds ++ d ∷ []) so_far here
    ∙ sym (ap (map f) (take_more xs i x lt) ∙ map_push f (take i xs) (get_or xs i x) ∙ ap (λ y. map f (take i xs) ++ f y ∷ []) (sym is))

-- one text more
pub text_next : {X : Type 0} (f : X → List ℕ) (xs : List X) (i : ℕ) (x : X) (before line after : List ℕ) → i < length xs → x ≡ get_or xs i x → before ≡ flat_map f (take i xs) → line ≡ f x
    → after ≡ before ++ line → after ≡ flat_map f (take (i + 1) xs)
text_next f xs i x before line after lt is so_far here more_is =
    let more : flat_map f (take (i + 1) xs) ≡ flat_map f (take i xs) ++ f (get_or xs i x) =
    ap (λ ys. flat_map f ys) (take_more xs i x lt) ∙ flat_map-append f (take i xs) (get_or xs i x ∷ []) ∙ ap (λ ys. flat_map f (take i xs) ++ ys) (append-nil (f (get_or xs i x))) in
    more_is ∙ ap₂ (λ (a b : List ℕ). a ++ b) so_far (here ∙ ap f is) ∙ sym more
