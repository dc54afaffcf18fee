-- Values that are made one by one, and that hold no float.
use Rattle.std.proofs.Common.{◌≡◌, ◌∙◌, ◌↔◌, ◌<◌, ◌+◌, ◌++◌, ◌∷◌, ℕ, Bool, true, false, IsTrue, List, [], ap, length, map, refl, subst, sym, take}
use Rattle.std.specs.Prelude.{filter, get_or, not}
use Rattle.std.proofs.lemmas.List.{append-nil, map-append, take_more}
use Rattle.std.proofs.lemmas.List.Elements.{filter-append}
use Rattle.serde_json.specs.Data.{Data}
use Rattle.serde_json.specs.View.{items_of, view}
use Rattle.serde_json.specs.Written.{has_float, items_have_float}
use Rattle.serde_json.specs.declared.value.Value.{Value}
use Rattle.ospf_base.specs.declared.ids.Instance.{Instance}
use Rattle.ospf_base.specs.declared.ids.LsaKey.{LsaKey}
use Rattle.ospf_base.specs.declared.ids.RouterId.{RouterId}
use Rattle.ospf_graph.specs.EdgeLists.Given.{StandsFor}
use Rattle.ospf_graph.specs.EdgeLists.Near.{AreEdgesAt}
use Rattle.ospf_graph.specs.Advertisements.{Advertisement}
use Rattle.ospf_graph.specs.declared.graph.Edge.{Edge}
use Rattle.ospf_graph.specs.declared.graph.Vertex.{Vertex}
use Rattle.ospf_lsa.specs.Header.{header_of}
use Rattle.ospf_lsa.specs.Lsa.{attached_of, instance_of, key_of, links_of}
use Rattle.ospf_lsa.specs.declared.link.Link.{Link}
use Rattle.ospf_inspect.proofs.Marks.{joins_are}
use Rattle.ospf_inspect.specs.Lsas.{AreJoined, AreJoinedBy, flags_of, network_name_of}
use Rattle.ospf_inspect.specs.Json.{AreValues, IsArray, no_values, more_values}
use Rattle.ospf_inspect.specs.Values.{IsOneWay, TellsAttached, TellsLink, TellsNetwork, TellsRouter, network_data, router_data}
use Rattle.ospf_inspect.specs.declared.lsas.NetworkName.{NetworkName}

-- one value more
values_more : {X : Type 0} (P : X → Data → Type 0) (xs : List X) (x : X) (ds : List Data) (d : Data) → AreValues P xs ds → P x d → AreValues P (xs ++ x ∷ []) (ds ++ d ∷ [])
values_more P _ x _ d no_values here = more_values here no_values
values_more P _ x _ d (more_values {x = y} {xs = ys} {d = e} {ds = es} is rest) here = more_values is (values_more P ys x es d rest here)

module _ {X : Type 0} (P : X → Data → Type 0) where
  pub none_yet : (values : List Value) → values ≡ [] → AreValues P [] (map view values)
  none_yet values none = rw none no_values

  pub pushed : (xs : List X) (x : X) (values more : List Value) (value : Value) → more ≡ values ++ value ∷ [] → AreValues P xs (map view values) → P x (view value)
      → AreValues P (xs ++ x ∷ []) (map view more)
  pushed xs x values more value more_is are here =
      subst (AreValues P (xs ++ x ∷ [])) (sym (ap (map view) more_is ∙ map-append view values (value ∷ []))) (values_more P xs x (map view values) (view value) are here)

  pub pushed_next : (xs : List X) (i : ℕ) (x : X) (values more : List Value) (value : Value) → i < length xs → x ≡ get_or xs i x → more ≡ values ++ value ∷ []
      → AreValues P (take i xs) (map view values) → P x (view value) → AreValues P (take (i + 1) xs) (map view more)
  pushed_next xs i x values more value lt is more_is are here = rw (take_more xs i x lt, ← is) (pushed (take i xs) x values more value more_is are here)

module _ {X : Type 0} (P : X → Data → Type 0) (test : X → Bool) (xs : List X) (i : ℕ) (x : X) (lt : i < length xs) (is : x ≡ get_or xs i x) where
  filtered_next : filter test (take (i + 1) xs) ≡ filter test (take i xs) ++ filter test (x ∷ [])
  filtered_next = ap (filter test) (take_more xs i x lt ∙ ap (λ y. take i xs ++ y ∷ []) (sym is)) ∙ filter-append test (take i xs) (x ∷ [])

  -- one more of those that pass
  pub passed_next : (values more : List Value) (value : Value) → test x ≡ true → more ≡ values ++ value ∷ [] → AreValues P (filter test (take i xs)) (map view values) → P x (view value)
      → AreValues P (filter test (take (i + 1) xs)) (map view more)
  passed_next values more value passes more_is are here =
      let one : filter test (x ∷ []) ≡ x ∷ [] = rw passes refl in
      subst (λ ys. AreValues P ys (map view more)) (sym (filtered_next ∙ ap (λ ys. filter test (take i xs) ++ ys) one)) (pushed P (filter test (take i xs)) x values more value more_is are here)

  -- and one that does not
  pub left_next : (values more : List Value) → test x ≡ false → more ≡ values → AreValues P (filter test (take i xs)) (map view values)
      → AreValues P (filter test (take (i + 1) xs)) (map view more)
  left_next values more fails more_is are =
      let none : filter test (x ∷ []) ≡ [] = rw fails refl in
      subst (λ ys. AreValues P ys (map view more)) (sym (filtered_next ∙ ap (λ ys. filter test (take i xs) ++ ys) none ∙ append-nil (filter test (take i xs))))
      (subst (λ vs. AreValues P (filter test (take i xs)) (map view vs)) (sym more_is) are)

-- a flag that is set where this does not hold
pub unless : (holds : Type 0) (b : Bool) → (IsTrue b ↔ holds) → (IsTrue (not b) ↔ (holds → ⊥))
unless holds true is = ((λ no. absurd (cc no)), (λ none. absurd (none (is.0 refl))))
unless holds false is = ((λ yes h. let no : false ≡ true = is.1 h in absurd (cc no)), (λ none. refl))

-- ---- floats

items_no_float : {X : Type 0} (P : X → Data → Type 0) → ((x : X) (d : Data) → P x d → has_float d ≡ false) → (xs : List X) (ds : List Data) → AreValues P xs ds
    → items_have_float (items_of ds) ≡ false
items_no_float P none _ _ no_values = refl
items_no_float P none _ _ (more_values {x = x} {xs = xs} {d = d} {ds = ds} is rest) = rw (none x d is) (items_no_float P none xs ds rest)

pub array_no_float : {X : Type 0} (P : X → Data → Type 0) → ((x : X) (d : Data) → P x d → has_float d ≡ false) → (xs : List X) (d : Data) → IsArray P xs d → has_float d ≡ false
array_no_float P none xs d is = ap has_float is.2 ∙ items_no_float P none xs is.0 is.1

-- ---- one way

pub one_way_unless : (adverts : List Advertisement) (v w : Vertex) (edges : List Edge) (b : Bool) → AreEdgesAt adverts v edges → (IsTrue b ↔ AreJoinedBy edges v w)
    → IsOneWay adverts v w (not b)
one_way_unless adverts v w edges b at is =
    let both = joins_are adverts v w edges at in
    unless (AreJoined adverts v w) b ((λ yes. both.0 (is.0 yes)), (λ joined. is.1 (both.1 joined)))

-- ---- LSAs

pub router_told : (adverts : List Advertisement) (lsa : List ℕ) (key : LsaKey) (age : ℕ) (instance : Instance) (flags : ℕ) (links : List Link) (told d : Data)
    → key ≡ key_of lsa → age ≡ (header_of lsa).age → instance ≡ instance_of lsa → flags ≡ flags_of lsa → links ≡ links_of lsa → IsArray (TellsLink adverts key.router) links told
    → d ≡ router_data key.router age instance flags told → TellsRouter adverts lsa d
router_told adverts lsa key age instance flags links told d key_is age_is instance_is flags_are links_are is d_is = (
  told,
  subst (λ (k : LsaKey). IsArray (TellsLink adverts k.router) (links_of lsa) told) key_is (subst (λ (xs : List Link). IsArray (TellsLink adverts key.router) xs told) links_are is),
  d_is ∙ ap (λ (k : LsaKey). router_data k.router age instance flags told) key_is ∙ ap (λ (a : ℕ). router_data (key_of lsa).router a instance flags told) age_is
      ∙ ap (λ (i : Instance). router_data (key_of lsa).router (header_of lsa).age i flags told) instance_is
      ∙ ap (λ (b : ℕ). router_data (key_of lsa).router (header_of lsa).age (instance_of lsa) b told) flags_are,
)

pub network_told : (adverts : List Advertisement) (lsa : List ℕ) (key : LsaKey) (name : NetworkName) (age : ℕ) (instance : Instance) (attached : List RouterId) (told d : Data) (used : Bool)
    → key ≡ key_of lsa → name ≡ network_name_of lsa → age ≡ (header_of lsa).age → instance ≡ instance_of lsa → attached ≡ attached_of lsa
    → (IsTrue used ↔ StandsFor adverts key.id key.router) → IsArray (TellsAttached adverts key.id) attached told
    → d ≡ network_data name age instance told (not used) → TellsNetwork adverts lsa d
network_told adverts lsa key name age instance attached told d used key_is name_is age_is instance_is attached_are stands is d_is = (
  told,
  not used,
  subst (λ (k : LsaKey). IsArray (TellsAttached adverts k.id) (attached_of lsa) told) key_is (subst (λ (xs : List RouterId). IsArray (TellsAttached adverts key.id) xs told) attached_are is),
  unless (StandsFor adverts (key_of lsa).id (key_of lsa).router) used (subst (λ (k : LsaKey). IsTrue used ↔ StandsFor adverts k.id k.router) key_is stands),
  d_is ∙ ap (λ (n : NetworkName). network_data n age instance told (not used)) name_is ∙ ap (λ (a : ℕ). network_data (network_name_of lsa) a instance told (not used)) age_is
      ∙ ap (λ (i : Instance). network_data (network_name_of lsa) (header_of lsa).age i told (not used)) instance_is,
)
