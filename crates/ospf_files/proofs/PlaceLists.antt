-- Places that are gathered one after the other.
use Rattle.std.proofs.Common.{◌≡◌, ◌↔◌, ◌∙◌, ℕ, ◌+◌, ◌<◌, Bool, true, List, [], ◌∷◌, ◌++◌, length, take, get_or, map, Option, Some, None, option_map, Result, Ok, Err, String, Global, codes, decimal, string_bytes, refl, sym, ap, subst, append_assoc, append-nil, length-append, arith}
use Rattle.std.specs.Prelude.{MatchOption, Any, IfOk}
use Rattle.std.specs.declared.alloc.AllocError.{AllocError}
use Rattle.std.specs.Result.{result_err}
use Rattle.std.specs.Map.{keys_of as map_keys}
use Rattle.std.specs.List.{AllZip}
use Rattle.std.proofs.lemmas.List.{take_more}
use Rattle.std.proofs.lemmas.Option.{same_Some}
use Rattle.toml.specs.Data.{Data, string, integer, float, boolean, datetime, array, table, Members, as_array, as_table}
use Rattle.toml.specs.Parse.{parse_document}
use Rattle.toml.specs.View.{view, items_view, members_view}
use Rattle.toml.specs.declared.value.Value.{Value}
use Rattle.toml.proofs.Views.{Entry, items_view-push}
use Rattle.ospf_files.specs.declared.explained.Explained.{Explained}
use Rattle.ospf_files.specs.declared.explained.Section.{Section}
use Rattle.ospf_files.specs.declared.explained.Section.TheVariants as section
use Rattle.ospf_config.specs.declared.fault.ConfigFault.{ConfigFault}
use Rattle.ospf_config.specs.declared.fault.ConfigFault.TheVariants as fault
use Rattle.ospf_files.specs.declared.rows.Row.{Row}
use Rattle.ospf_config.specs.Configs.{TextHasFault}
use Rattle.ospf_files.specs.Explained.{KnownKey, KeyHas, key_name, item_number, IsValueText, IsFoundText, IsKeyPlace, IsKnownPlace, ArePlacesOf, no_key, taken, passed, IsPlaceWhere, told, not_told, AreTopPlaces, AreInConflict, AreInterfacePlaces, AreHostPlaces, AreAllPlaces, one_more, AreTablePlaces, IsLinePlace, IsExplained, keys_at_top, keys_of_interface, keys_of_host, IsUnknownPlace, router_id_key, area_key, stub_router_key, other_lsas_key, rfc3021_key, interface_key, host_key, kind_key, address_key, cost_key, priority_key, hello_key, dead_key, retransmit_key, transmit_delay_key, mtu_key, port_key, peers_key, passive_key, prefix_suppression_key, host_address_key, host_cost_key}
use Rattle.ospf_files.specs.Rows.{IsRowOf, AddsRows}
use Rattle.ospf_config.specs.Keys.{asks_rfc3021}
use Rattle.ospf_config.specs.Tables.{IsDeadNotOverHello, IsOtherKey, IsTableWith, HasTakenAddress, host_keys, host_tables, interface_tables, keys_of, tables_among}
use Rattle.ospf_config.proofs.Least.{IsSingle}
use Rattle.ospf_config.proofs.PeerLists.{none_is_some}
use Rattle.ospf_config.proofs.Singles.{router_id_single, area_single, stub_router_single, other_lsas_single, rfc3021_single, interface_single, host_list_single, host_address_single, host_cost_single, kind_single, address_single, hello_single, dead_single, retransmit_single, transmit_delay_single, only_cost, priority_single, mtu_single, port_single, peers_single, passive_single, prefix_suppression_single}
use Rattle.ospf_config.proofs.TableLists.{any_table, any_value, tables_push}

-- ---- lists that grow

pub adds_nothing : (Are : List Explained → Type 0) (old : List Explained) → Are [] → AddsRows Are old old
adds_nothing Are old are = record { more = []; added = sym (append-nil old); are = are }

pub adds_one : (Are : List Explained → Type 0) (old : List Explained) (e : Explained) → Are (e ∷ []) → AddsRows Are old (old ++ e ∷ [])
adds_one Are old e are = record { more = e ∷ []; added = refl; are = are }

where_same : (A B : Type 0) (IsPlace : Explained → Type 0) (es : List Explained) → (A ↔ B) → IsPlaceWhere A IsPlace es → IsPlaceWhere B IsPlace es
where_same A B IsPlace _ same (told fact is) = told (same.0 fact) is
where_same A B IsPlace _ same (not_told none) = not_told (λ b. none (same.1 b))

-- ---- the places of some keys

module _ {K : Type 0} (Has : K → Type 0) (IsPlace : K → Explained → Type 0) where
  places_where : (F : Type 0) (k : K) (ks : List K) (es own : List Explained) → (F ↔ Has k) → ArePlacesOf Has IsPlace ks es → IsPlaceWhere F (IsPlace k) own
      → ArePlacesOf Has IsPlace (ks ++ k ∷ []) (es ++ own)
  places_where F k _ _ _ same no_key (told fact is) = taken (same.0 fact) is no_key
  places_where F k _ _ _ same no_key (not_told none) = passed (λ has. none (same.1 has)) no_key
  places_where F k _ _ own same (taken has is rest) here = taken has is (places_where F k _ _ own same rest here)
  places_where F k _ _ own same (passed none rest) here = passed none (places_where F k _ _ own same rest here)

  pub adds_where : (F : Type 0) (ks : List K) (i : ℕ) (k : K) (old out new : List Explained) → i < length ks → k ≡ get_or ks i k → (F ↔ Has k)
      → AddsRows (ArePlacesOf Has IsPlace (take i ks)) old out → AddsRows (IsPlaceWhere F (IsPlace k)) out new → AddsRows (ArePlacesOf Has IsPlace (take (i + 1) ks)) old new
  adds_where F ks i k old out new lt at same so_far here =
      rw (take_more ks i k lt, ← at)
      (record {
        more = so_far.more ++ here.more;
        added = here.added ∙ ap (λ es. es ++ here.more) so_far.added ∙ append_assoc old so_far.more here.more;
        are = places_where F k (take i ks) so_far.more here.more same so_far.are here.are;
      })

  -- the places of the keys so far, with which those of the rest make all
  pub record Onward (all rest : List K) (old out : List Explained) : Type 0 where
    pub more : List Explained
    pub added : out ≡ old ++ more
    pub onward : (later : List Explained) → ArePlacesOf Has IsPlace rest later → ArePlacesOf Has IsPlace all (more ++ later)

  pub onward_none : (all : List K) (old : List Explained) → Onward all all old old
  onward_none all old = record { more = []; added = sym (append-nil old); onward = λ later are. are }

  in_front : (F : Type 0) (k : K) (rest : List K) (own later : List Explained) → (F ↔ Has k) → IsPlaceWhere F (IsPlace k) own → ArePlacesOf Has IsPlace rest later
      → ArePlacesOf Has IsPlace (k ∷ rest) (own ++ later)
  in_front F k rest _ later same (told fact is) are = taken (same.0 fact) is are
  in_front F k rest _ later same (not_told none) are = passed (λ has. none (same.1 has)) are

  pub onward_where : (F : Type 0) (k : K) (all rest : List K) (old out new : List Explained) → (F ↔ Has k) → Onward all (k ∷ rest) old out
      → AddsRows (IsPlaceWhere F (IsPlace k)) out new → Onward all rest old new
  onward_where F k all rest old out new same so_far here = record {
    more = so_far.more ++ here.more;
    added = here.added ∙ ap (λ es. es ++ here.more) so_far.added ∙ append_assoc old so_far.more here.more;
    onward = λ later are. (rw (append_assoc so_far.more here.more later) (so_far.onward (here.more ++ later) (in_front F k rest here.more later same here.are are)));
  }

  pub onward_all : (all : List K) (old out : List Explained) → Onward all [] old out → AddsRows (ArePlacesOf Has IsPlace all) old out
  onward_all all old out h = record { more = h.more; added = h.added; are = rw append-nil at (h.onward [] no_key) }

pub key_names : (es : List Entry) → map (λ (k : String Global). string_bytes k) (map_keys es) ≡ keys_of (members_view es)
key_names [] = refl
key_names (e ∷ es) = ap (λ ks. string_bytes e.0 ∷ ks) (key_names es)

-- ---- rows

module _ (q : Bool) (t : Members) where
  one_fault : (k : KnownKey) (f g : ConfigFault) → KeyHas q t f k → KeyHas q t g k → f ≡ g
  one_fault router_id_key f g a b = (router_id_single t).one f g a b
  one_fault area_key f g a b = (area_single t).one f g a b
  one_fault stub_router_key f g a b = (stub_router_single t).one f g a b
  one_fault other_lsas_key f g a b = (other_lsas_single t).one f g a b
  one_fault rfc3021_key f g a b = (rfc3021_single t).one f g a b
  one_fault host_key f g a b = (host_list_single t).one f g a b
  one_fault host_address_key f g a b = (host_address_single t).one f g a b
  one_fault host_cost_key f g a b = (host_cost_single t).one f g a b
  one_fault interface_key f g a b = (interface_single t).one f g a b
  one_fault kind_key f g a b = (kind_single t).one f g a b
  one_fault address_key f g a b = (address_single t q).one f g a b
  one_fault cost_key f g a b = (only_cost t).one f g a b
  one_fault priority_key f g a b = (priority_single t).one f g a b
  one_fault hello_key f g a b = (hello_single t).one f g a b
  one_fault dead_key f g a b = (dead_single t).one f g a b
  one_fault retransmit_key f g a b = (retransmit_single t).one f g a b
  one_fault transmit_delay_key f g a b = (transmit_delay_single t).one f g a b
  one_fault mtu_key f g a b = (mtu_single t).one f g a b
  one_fault port_key f g a b = (port_single t).one f g a b
  one_fault peers_key f g a b = (peers_single t).one f g a b
  one_fault passive_key f g a b = (passive_single t).one f g a b
  one_fault prefix_suppression_key f g a b = (prefix_suppression_single t).one f g a b

  has_of : (k : KnownKey) (f : ConfigFault) (o : Option ConfigFault) → MatchOption o ((g : ConfigFault) → KeyHas q t g k → ⊥) (λ g. KeyHas q t g k) → o ≡ Some f → KeyHas q t f k
  has_of k f o is e = rw e at is

  fault_of : (k : KnownKey) (f : ConfigFault) (o : Option ConfigFault) → MatchOption o ((g : ConfigFault) → KeyHas q t g k → ⊥) (λ g. KeyHas q t g k) → KeyHas q t f k → o ≡ Some f
  fault_of k f None is has = absurd (is f has)
  fault_of k f (Some g) is has = ap Some (one_fault k g f is has)

  place_of : (n : Section) (k : KnownKey) (row : Row) (e : Explained) → IsRowOf q t k row → IsKeyPlace n t row.key.now row.wanted.now e → IsKnownPlace n t k e
  place_of n k row e is here =
      let named : IsKeyPlace n t (key_name k) row.wanted.now e = subst (λ name. IsKeyPlace n t name row.wanted.now e) is.key_is here in
      subst (λ wanted. IsKeyPlace n t (key_name k) wanted e) is.wanted_is named

  -- the places of rows are those of their keys
  row_places : (f : ConfigFault) (n : Section) (ks : List KnownKey) (rows : List Row) (es : List Explained) → AllZip (IsRowOf q t) ks rows
      → ArePlacesOf (λ (row : Row). row.fault ≡ Some f) (λ row e. IsKeyPlace n t row.key.now row.wanted.now e) rows es → ArePlacesOf (KeyHas q t f) (IsKnownPlace n t) ks es
  row_places f n [] _ _ each no_key = no_key
  row_places f n (k ∷ ks) _ _ each no_key = absurd each
  row_places f n [] _ _ each (taken has is rest) = absurd each
  row_places f n [] _ _ each (passed none rest) = absurd each
  row_places f n (k ∷ ks) _ _ each (taken {k = row} {ks = rows} {e = e} {es = es} has is rest) =
      taken (has_of k f row.fault each.0.fault_is has) (place_of n k row e each.0 is) (row_places f n ks rows es each.1 rest)
  row_places f n (k ∷ ks) _ _ each (passed {k = row} {ks = rows} {es = es} none rest) =
      passed (λ has. none (fault_of k f row.fault each.0.fault_is has)) (row_places f n ks rows es each.1 rest)

  interface_places : (n : ℕ) (before : List Members) (f : ConfigFault) (es : List Explained) → (f ≡ fault.SamePrefix → ⊥) → (f ≡ fault.DeadNotOverHello → ⊥) → (f ≡ fault.Unknown → ⊥)
      → ArePlacesOf (KeyHas q t f) (IsKnownPlace (section.Interface n) t) keys_of_interface es → AreInterfacePlaces q f n before t es
  interface_places n before fault.NotToml es a b c h = h
  interface_places n before fault.Missing es a b c h = h
  interface_places n before fault.Type es a b c h = h
  interface_places n before fault.Range es a b c h = h
  interface_places n before fault.ZeroCost es a b c h = h
  interface_places n before fault.SamePrefix es a b c h = absurd (a refl)
  interface_places n before fault.DeadNotOverHello es a b c h = absurd (b refl)
  interface_places n before fault.Unknown es a b c h = absurd (c refl)
  interface_places n before fault.Memory es a b c h = h

  host_places : (interfaces : List Members) (n : ℕ) (before : List Members) (f : ConfigFault) (es : List Explained) → (f ≡ fault.SamePrefix → ⊥) → (f ≡ fault.Unknown → ⊥)
      → ArePlacesOf (KeyHas q t f) (IsKnownPlace (section.Host n) t) keys_of_host es → AreHostPlaces q interfaces f n before t es
  host_places interfaces n before fault.NotToml es a c h = h
  host_places interfaces n before fault.Missing es a c h = h
  host_places interfaces n before fault.Type es a c h = h
  host_places interfaces n before fault.Range es a c h = h
  host_places interfaces n before fault.ZeroCost es a c h = h
  host_places interfaces n before fault.SamePrefix es a c h = absurd (a refl)
  host_places interfaces n before fault.DeadNotOverHello es a c h = h
  host_places interfaces n before fault.Unknown es a c h = absurd (c refl)
  host_places interfaces n before fault.Memory es a c h = h

-- those at the top, of a fault that is told by rows
top_places : (t : Members) (f : ConfigFault) (es : List Explained) → (f ≡ fault.Unknown → ⊥) → ArePlacesOf (KeyHas (asks_rfc3021 t) t f) (IsKnownPlace section.Top t) keys_at_top es → AreTopPlaces t f es
top_places t fault.NotToml es other h = h
top_places t fault.Missing es other h = h
top_places t fault.Type es other h = h
top_places t fault.Range es other h = h
top_places t fault.ZeroCost es other h = h
top_places t fault.SamePrefix es other h = h
top_places t fault.DeadNotOverHello es other h = h
top_places t fault.Unknown es other h = absurd (other refl)
top_places t fault.Memory es other h = h

-- ---- one place

pub found_none : (o : Option Data) (found : Option (String Global)) → None ≡ o → found ≡ None → IsFoundText o (option_map (λ text. string_bytes text) found)
found_none o found none is = rw (← none, is) refl

pub found_some : (o : Option Data) (d : Data) (found : Option (String Global)) (text : String Global) → Some d ≡ o → found ≡ Some text → IsValueText d (string_bytes text)
    → IsFoundText o (option_map (λ t. string_bytes t) found)
found_some o d found text some is in_words = rw (← some, is) in_words

item_number_of : (vs : List Value) → item_number (items_view vs) ≡ length vs
item_number_of [] = refl
item_number_of (v ∷ vs) = ap (λ n. 1 + n) (item_number_of vs) ∙ omega arith

list_text : (d : Data) (vs : List Value) (text : List ℕ) → Some (items_view vs) ≡ as_array d → text ≡ codes "a list of " ++ decimal (length vs) → IsValueText d text
list_text (array ds) vs text e is = is ∙ ap (λ n. codes "a list of " ++ decimal n) (sym (item_number_of vs) ∙ ap item_number (same_Some (items_view vs) ds e))
list_text (string s) vs text e is = absurd (none_is_some (items_view vs) (sym e))
list_text (integer z) vs text e is = absurd (none_is_some (items_view vs) (sym e))
list_text (float x) vs text e is = absurd (none_is_some (items_view vs) (sym e))
list_text (boolean b) vs text e is = absurd (none_is_some (items_view vs) (sym e))
list_text (datetime dt) vs text e is = absurd (none_is_some (items_view vs) (sym e))
list_text (table ms) vs text e is = absurd (none_is_some (items_view vs) (sym e))

pub fault_error : {T : Type 0} (Reads : Result T ConfigFault → Type 0) (single : IsSingle Reads) (found o : Option ConfigFault) (r : Result T ConfigFault) → found ≡ o → o ≡ result_err r → Reads r
    → MatchOption found ((f : ConfigFault) → Reads (Err f) → ⊥) (λ f. Reads (Err f))
fault_error Reads single found o (Ok x) e is reads = rw (e, is) (λ f h. single.none x f reads h)
fault_error Reads single found o (Err f) e is reads = rw (e, is) reads

-- ---- interfaces

conflict_tables : (P : Members → Type 0) (vs : List Value) (b : Bool) → ((b ≡ true) ↔ Any (λ v. IsTableWith P (view v)) vs) → (b ≡ true) ↔ Any P (tables_among (items_view vs))
conflict_tables P vs b same = (λ yes. any_table P vs (same.0 yes), λ has. same.1 (any_value P vs has))

-- the places of the tables before the one of this number
pub record AreTold (Own : ℕ → List Members → Members → List Explained → Type 0) (tables : List Members) (number : ℕ) (old out : List Explained) : Type 0 where
  pub places : AddsRows (AreAllPlaces Own tables) old out
  pub number_is : length tables ≡ number

pub told_more : (Own : ℕ → List Members → Members → List Explained → Type 0) (vs : List Value) (i : ℕ) (v : Value) (t : Members) (old out new : List Explained) → i < length vs → v ≡ get_or vs i v → as_table (view v) ≡ Some t
    → AreTold Own (tables_among (items_view (take i vs))) i old out → AddsRows (Own i (tables_among (items_view (take i vs))) t) out new
    → AreTold Own (tables_among (items_view (take (i + 1) vs))) (i + 1) old new
told_more Own vs i v t old out new lt at is so_far here =
    let tables = tables_among (items_view (take i vs)) in
    let numbered : Own (length tables) tables t here.more = rw so_far.number_is here.are in
    rw (take_more vs i v lt, ← at, items_view-push (take i vs) v, tables_push (items_view (take i vs)) (view v) t is)
    (record {
      places = record {
        more = so_far.places.more ++ here.more;
        added = here.added ∙ ap (λ es. es ++ here.more) so_far.places.added ∙ append_assoc old so_far.places.more here.more;
        are = one_more t here.more so_far.places.are numbered;
      };
      number_is = length-append tables (t ∷ []) ∙ ap (λ n. n + 1) so_far.number_is;
    })

-- ---- texts

pub line_explained : (text : List ℕ) (f : ConfigFault) (es : List Explained) → parse_document text ≡ None → IsLinePlace text es → TextHasFault text f → IsExplained text f es
line_explained text fault.NotToml es none at has = at
line_explained text fault.Missing es none at (t, parsed, h) = absurd (none_is_some t (sym none ∙ parsed))
line_explained text fault.Type es none at (t, parsed, h) = absurd (none_is_some t (sym none ∙ parsed))
line_explained text fault.Range es none at (t, parsed, h) = absurd (none_is_some t (sym none ∙ parsed))
line_explained text fault.ZeroCost es none at (t, parsed, h) = absurd (none_is_some t (sym none ∙ parsed))
line_explained text fault.SamePrefix es none at (t, parsed, h) = absurd (none_is_some t (sym none ∙ parsed))
line_explained text fault.DeadNotOverHello es none at (t, parsed, h) = absurd (none_is_some t (sym none ∙ parsed))
line_explained text fault.Unknown es none at (t, parsed, h) = absurd (none_is_some t (sym none ∙ parsed))
line_explained text fault.Memory es none at (t, parsed, h) = absurd (none_is_some t (sym none ∙ parsed))

-- ---- what is added of an interface and of a host, and at the top

module _ (q : Bool) (t : Members) (n : ℕ) (f : ConfigFault) (old new : List Explained) where
  pub prefix_added : (before : List Value) (holds : Bool) → f ≡ fault.SamePrefix → ((holds ≡ true) ↔ Any (λ v. IsTableWith (λ first. AreInConflict q first t) (view v)) before)
      → AddsRows (IsPlaceWhere (holds ≡ true) (IsKeyPlace (section.Interface n) t (codes "address") (codes "a prefix and an address that no earlier interface has"))) old new
      → AddsRows (AreInterfacePlaces q f n (tables_among (items_view before)) t) old new
  prefix_added before holds is same h =
      rw is
      (record {
        more = h.more;
        added = h.added;
        are = where_same _ _ _ h.more (conflict_tables (λ first. AreInConflict q first t) before holds same) h.are;
      })

  pub dead_added : (before : List Members) (holds : Bool) → f ≡ fault.DeadNotOverHello → ((holds ≡ true) ↔ IsDeadNotOverHello t)
      → AddsRows (IsPlaceWhere (holds ≡ true) (IsKeyPlace (section.Interface n) t (codes "dead") (codes "more than `hello` (defaults: dead 40, hello 10)"))) old new → AddsRows (AreInterfacePlaces q f n before t) old new
  dead_added before holds is same h = rw is (record { more = h.more; added = h.added; are = where_same _ _ _ h.more same h.are })

  pub rows_added : (before : List Members) (rows : List Row) → (f ≡ fault.SamePrefix → ⊥) → (f ≡ fault.DeadNotOverHello → ⊥) → (f ≡ fault.Unknown → ⊥) → AllZip (IsRowOf q t) keys_of_interface rows
      → AddsRows (ArePlacesOf (λ (row : Row). row.fault ≡ Some f) (λ row e. IsKeyPlace (section.Interface n) t row.key.now row.wanted.now e) rows) old new → AddsRows (AreInterfacePlaces q f n before t) old new
  rows_added before rows a b c each h = record {
    more = h.more;
    added = h.added;
    are = interface_places q t n before f h.more a b c (row_places q t f (section.Interface n) keys_of_interface rows h.more each h.are);
  }

  pub taken_added : (interfaces before : List Members) (holds : Bool) → f ≡ fault.SamePrefix → ((holds ≡ true) ↔ HasTakenAddress q interfaces before t)
      → AddsRows (IsPlaceWhere (holds ≡ true) (IsKeyPlace (section.Host n) t (codes "address") (codes "an address that no interface and no earlier host has"))) old new
      → AddsRows (AreHostPlaces q interfaces f n before t) old new
  taken_added interfaces before holds is same h = rw is (record { more = h.more; added = h.added; are = where_same _ _ _ h.more same h.are })

  pub host_unknown_added : (interfaces before : List Members) → f ≡ fault.Unknown → AddsRows (ArePlacesOf (IsOtherKey host_keys) (IsUnknownPlace (section.Host n) t) (keys_of t)) old new
      → AddsRows (AreHostPlaces q interfaces f n before t) old new
  host_unknown_added interfaces before is h = rw is h

  pub host_rows_added : (interfaces before : List Members) (rows : List Row) → (f ≡ fault.SamePrefix → ⊥) → (f ≡ fault.Unknown → ⊥) → AllZip (IsRowOf q t) keys_of_host rows
      → AddsRows (ArePlacesOf (λ (row : Row). row.fault ≡ Some f) (λ row e. IsKeyPlace (section.Host n) t row.key.now row.wanted.now e) rows) old new → AddsRows (AreHostPlaces q interfaces f n before t) old new
  host_rows_added interfaces before rows a c each h = record {
    more = h.more;
    added = h.added;
    are = host_places q t interfaces n before f h.more a c (row_places q t f (section.Host n) keys_of_host rows h.more each h.are);
  }

pub top_added : (t : Members) (f : ConfigFault) (old new : List Explained) (rows : List Row) → (f ≡ fault.Unknown → ⊥) → AllZip (IsRowOf (asks_rfc3021 t) t) keys_at_top rows
    → AddsRows (ArePlacesOf (λ (row : Row). row.fault ≡ Some f) (λ row e. IsKeyPlace section.Top t row.key.now row.wanted.now e) rows) old new → AddsRows (AreTopPlaces t f) old new
top_added t f old new rows other each h = record {
  more = h.more;
  added = h.added;
  are = top_places t f h.more other (row_places (asks_rfc3021 t) t f section.Top keys_at_top rows h.more each h.are);
}

-- the places of a table, one part after the other
pub table_added : (t : Members) (f : ConfigFault) (q : Bool) (is hs : List Members) (old one two new : List Explained) → old ≡ [] → q ≡ asks_rfc3021 t → is ≡ interface_tables t → hs ≡ host_tables t
    → AddsRows (AreTopPlaces t f) old one → AddsRows (AreAllPlaces (AreInterfacePlaces q f) is) one two → AddsRows (AreAllPlaces (AreHostPlaces q is f) hs) two new → AreTablePlaces t f new
table_added t f q is hs old one two new empty asks is_tables hs_tables top interfaces hosts = record {
  at_top = top.more;
  of_interfaces = interfaces.more;
  of_hosts = hosts.more;
  top = top.are;
  interfaces = rw (asks, is_tables) at interfaces.are;
  hosts = rw (asks, is_tables, hs_tables) at hosts.are;
  all = hosts.added ∙ ap (λ es. es ++ hosts.more) (interfaces.added ∙ ap (λ es. es ++ interfaces.more) (top.added ∙ ap (λ es. es ++ top.more) empty))
      ∙ append_assoc top.more interfaces.more hosts.more;
}

-- ---- results

pub list_result : (d : Data) (vs : List Value) (n : ℕ) (r : Result (String Global) AllocError) → Some (items_view vs) ≡ as_array d → n ≡ length vs
    → IfOk r (λ s. string_bytes s ≡ codes "a list of " ++ decimal n) → IfOk r (λ s. IsValueText d (string_bytes s))
list_result d vs n (Ok s) list count h = list_text d vs (string_bytes s) list (h ∙ ap (λ m. codes "a list of " ++ decimal m) count)
list_result d vs n (Err e) list count h = h
