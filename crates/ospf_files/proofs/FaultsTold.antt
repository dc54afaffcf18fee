-- A fault holds where there is a place that has it: so the faults with places are those that hold.
use Rattle.std.proofs.Common.{◌≡◌, ◌==◌, ◌∙◌, ◌⊎◌, Bool, false, true, ℕ, zero, suc, ◌+◌, ◌<◌, List, [], ◌∷◌, ◌++◌, length, take, get_or, Some, None, inl, inr, refl, sym, ap, subst, arith}
use Rattle.std.specs.Prelude.{⊤, Any, slice_get}
use Rattle.std.proofs.lemmas.Bool.{false≢true}
use Rattle.std.proofs.lemmas.List.{take_more, take-append-le}
use Rattle.std.proofs.Math.Seq.{take-append_seam}
use Rattle.std.proofs.lemmas.Option.{same_Some}
use Rattle.toml.specs.Data.{Members}
use Rattle.toml.specs.Parse.{parse_document}
use Rattle.ospf_config.specs.declared.fault.ConfigFault.{ConfigFault}
use Rattle.ospf_config.specs.declared.fault.ConfigFault.TheVariants as fault
use Rattle.ospf_config.specs.Configs.{TextHasFault}
use Rattle.ospf_config.specs.Fault.{config_fault_number}
use Rattle.ospf_config.specs.Keys.{asks_rfc3021}
use Rattle.ospf_config.specs.Tables.{HasTopFault, HasInterfaceFault, HasHostFault, HaveSamePrefix, IsAnyTaken, HasTakenAddress, IsDeadNotOverHello, HasOtherKey, HasKeyFault, HasConfigFault, interface_tables, host_tables, keys_of, interface_keys, host_keys}
use Rattle.ospf_config.proofs.PeerLists.{none_is_some}
use Rattle.ospf_config.proofs.TableLists.{any_here, any_later, any_cons, any_none, any_append_left, any_last, any_snoc}
use Rattle.ospf_files.specs.AllFaults.{AreAllExplained, AreFaultsExplained, no_fault_more, holds_here, holds_not, faults_of_tables}
use Rattle.ospf_files.specs.Explained.{KeyHas, IsKnownPlace, ArePlacesOf, no_key, taken, passed, IsPlaceWhere, told, not_told, AreTopPlaces, AreInConflict, AreInterfacePlaces, AreHostPlaces, AreAllPlaces, no_table, one_more, AreTablePlaces, IsExplained, IsLinePlace, keys_at_top, keys_of_interface, keys_of_host}
use Rattle.ospf_files.specs.declared.all.FaultExplained.{FaultExplained}
use Rattle.ospf_files.specs.declared.explained.Explained.{Explained}
use Rattle.ospf_files.specs.declared.explained.Section.TheVariants as section
use Rattle.ospf_files.proofs.KeyFaults.{any_low, host_fault_of, host_keys_have, interface_fault_of, interface_keys_have, top_fault_of, top_keys_have}

-- ---- places, and whether the fact holds that they are told for

-- there is a place where the fact holds, and none where it does not
pub data Tells (F : Type 0) : List Explained → Type 0 where
  tells : {e : Explained} {es : List Explained} → F → Tells F (e ∷ es)
  silent : (F → ⊥) → Tells F []

pub tells_yes : (F : Type 0) (es : List Explained) → Tells F es → (length es == 0) ≡ false → F
tells_yes F _ (tells fact) some = fact
tells_yes F _ (silent none) some = absurd (false≢true (sym some))

pub tells_no : (F : Type 0) (es : List Explained) → Tells F es → (length es == 0) ≡ true → F → ⊥
tells_no F _ (tells {e = e} {es = es} fact) empty f = (let some : (length (e ∷ es) == 0) ≡ false = grind arith in false≢true (sym some ∙ empty))
tells_no F _ (silent none) empty f = none f

tells_same : (F G : Type 0) (es : List Explained) → (F → G) → (G → F) → Tells F es → Tells G es
tells_same F G _ to from (tells fact) = tells (to fact)
tells_same F G _ to from (silent none) = silent (λ g. none (from g))

tells_both : (F G : Type 0) (es ds : List Explained) → Tells F es → Tells G ds → Tells (F ⊎ G) (es ++ ds)
tells_both F G _ ds (tells fact) later = tells (inl fact)
tells_both F G _ _ (silent none) (tells fact) = tells (inr fact)
tells_both F G _ _ (silent none) (silent later) = silent (λ h. elim h [ inl f ↦ none f | inr g ↦ later g ])

tells_keys : {K : Type 0} (Has : K → Type 0) (IsPlace : K → Explained → Type 0) (ks : List K) (es : List Explained) → ArePlacesOf Has IsPlace ks es → Tells (Any Has ks) es
tells_keys Has IsPlace _ _ no_key = silent (any_none Has)
tells_keys Has IsPlace _ _ (taken {k = k} {ks = ks} has is rest) = tells (any_here Has k ks has)
tells_keys Has IsPlace _ _ (passed {k = k} {ks = ks} {es = es} none rest) =
    tells_same _ _ es (any_later Has k ks) (λ h. elim (any_cons Has k ks h) [ inl p ↦ absurd (none p) | inr r ↦ r ]) (tells_keys Has IsPlace ks es rest)

tells_where : (F : Type 0) (IsPlace : Explained → Type 0) (es : List Explained) → IsPlaceWhere F IsPlace es → Tells F es
tells_where F IsPlace _ (told fact is) = tells fact
tells_where F IsPlace _ (not_told none) = silent none

-- ---- the places of interfaces and of hosts

module _ (AreOwn : ℕ → List Members → Members → List Explained → Type 0) (Fact : List Members → Type 0) (Own : List Members → Members → Type 0) (none : Fact [] → ⊥)
    (split : (before : List Members) (t : Members) → Fact (before ++ t ∷ []) → Fact before ⊎ Own before t) (join : (before : List Members) (t : Members) → Fact before ⊎ Own before t → Fact (before ++ t ∷ []))
    (here : (before : List Members) (t : Members) (es : List Explained) → AreOwn (length before) before t es → Tells (Own before t) es) where
  tells_all : (ts : List Members) (es : List Explained) → AreAllPlaces AreOwn ts es → Tells (Fact ts) es
  tells_all _ _ no_table = silent none
  tells_all _ _ (one_more {before = before} t own {es = es} rest is) =
      tells_same _ _ (es ++ own) (join before t) (split before t) (tells_both _ _ es own (tells_all before es rest) (here before t own is))

module _ (AreOwn : ℕ → List Members → Members → List Explained → Type 0) (P : Members → Type 0)
    (here : (before : List Members) (t : Members) (es : List Explained) → AreOwn (length before) before t es → Tells (P t) es) where
  tells_any : (ts : List Members) (es : List Explained) → AreAllPlaces AreOwn ts es → Tells (Any P ts) es
  tells_any =
      tells_all AreOwn (Any P) (λ before t. P t) (any_none P) (λ before t h. any_snoc P before t h)
      (λ before t h. elim h [ inl some ↦ any_append_left P before (t ∷ []) some | inr p ↦ any_last P before t p ]) here

-- ---- two interfaces of one prefix

any_at : {A : Type 0} (P : A → Type 0) (xs : List A) (i : ℕ) (x : A) → slice_get xs i ≡ Some x → P x → Any P xs
any_at P [] i x at p = absurd (none_is_some x at)
any_at P (y ∷ xs) zero x at p = any_here P y xs (subst P (sym (same_Some y x at)) p)
any_at P (y ∷ xs) (suc i) x at p = any_later P y xs (any_at P xs i x at p)

at_any : {A : Type 0} (P : A → Type 0) (xs : List A) → Any P xs → (i : ℕ) × (x : A) × (slice_get xs i ≡ Some x) × P x
at_any P [] h = absurd (any_none P h)
at_any P (y ∷ xs) h = elim (any_cons P y xs h) [ inl p ↦ (0, y, refl, p) | inr r ↦ (let (i, x, at, p) = at_any P xs r in (suc i, x, at, p)) ]

get_within : {A : Type 0} (xs : List A) (i : ℕ) (x : A) → slice_get xs i ≡ Some x → i < length xs
get_within [] i x at = absurd (none_is_some x at)
get_within (y ∷ xs) zero x at = omega arith
get_within (y ∷ xs) (suc i) x at = (let lt : i < length xs = get_within xs i x at in omega arith)

get_front : {A : Type 0} (xs ys : List A) (i : ℕ) (x : A) → slice_get xs i ≡ Some x → slice_get (xs ++ ys) i ≡ Some x
get_front [] ys i x at = absurd (none_is_some x at)
get_front (y ∷ xs) ys zero x at = at
get_front (y ∷ xs) ys (suc i) x at = get_front xs ys i x at

get_last : {A : Type 0} (xs : List A) (y : A) → slice_get (xs ++ y ∷ []) (length xs) ≡ Some y
get_last [] y = refl
get_last (x ∷ xs) y = get_last xs y

get_split : {A : Type 0} (xs : List A) (y : A) (i : ℕ) (x : A) → slice_get (xs ++ y ∷ []) i ≡ Some x → (slice_get xs i ≡ Some x) ⊎ ((i ≡ length xs) × (y ≡ x))
get_split [] y zero x at = inr (refl, same_Some y x at)
get_split [] y (suc i) x at = absurd (none_is_some x at)
get_split (z ∷ xs) y zero x at = inl at
get_split (z ∷ xs) y (suc i) x at = elim (get_split xs y i x at) [ inl in_front ↦ inl in_front | inr (last, is) ↦ inr (ap suc last, is) ]

prefix_none : (q : Bool) → HaveSamePrefix q [] → ⊥
prefix_none q h = none_is_some h.first h.at_first

prefix_split : (q : Bool) (before : List Members) (t : Members) → HaveSamePrefix q (before ++ t ∷ []) → HaveSamePrefix q before ⊎ Any (λ first. AreInConflict q first t) before
prefix_split q before t h =
    let lt : h.i < h.j = h.before in
    elim (get_split before t h.i h.first h.at_first) [
      | inl first_at ↦ elim (get_split before t h.j h.second h.at_second) [
        | inl second_at ↦ inl (record {
          i = h.i;
          j = h.j;
          before = h.before;
          first = h.first;
          second = h.second;
          at_first = first_at;
          at_second = second_at;
          a = h.a;
          b = h.b;
          first_address = h.first_address;
          second_address = h.second_address;
          conflict = h.conflict;
        })
        | inr (last, is) ↦
            let both : AreInConflict q h.first h.second = record { a = h.a; b = h.b; first_address = h.first_address; second_address = h.second_address; conflict = h.conflict } in
            inr (any_at (λ first. AreInConflict q first t) before h.i h.first first_at (subst (λ s. AreInConflict q h.first s) (sym is) both))
      ]
      | inr (last, is) ↦ elim (get_split before t h.j h.second h.at_second) [
        | inl second_at ↦ absurd (let within : h.j < length before = get_within before h.j h.second second_at in omega (arith, last))
        | inr (also, so) ↦ absurd (omega (arith, last, also))
      ]
    ]

prefix_join : (q : Bool) (before : List Members) (t : Members) → HaveSamePrefix q before ⊎ Any (λ first. AreInConflict q first t) before → HaveSamePrefix q (before ++ t ∷ [])
prefix_join q before t (inl h) = record {
  i = h.i;
  j = h.j;
  before = h.before;
  first = h.first;
  second = h.second;
  at_first = get_front before (t ∷ []) h.i h.first h.at_first;
  at_second = get_front before (t ∷ []) h.j h.second h.at_second;
  a = h.a;
  b = h.b;
  first_address = h.first_address;
  second_address = h.second_address;
  conflict = h.conflict;
}
prefix_join q before t (inr some) = (let (i, first, at, both) = at_any (λ first. AreInConflict q first t) before some in record {
  i = i;
  j = length before;
  before = get_within before i first at;
  first = first;
  second = t;
  at_first = get_front before (t ∷ []) i first at;
  at_second = get_last before t;
  a = both.a;
  b = both.b;
  first_address = both.first_address;
  second_address = both.second_address;
  conflict = both.conflict;
})

-- ---- a host at the address of an interface or of a host before it

taken_none : (q : Bool) (is : List Members) → IsAnyTaken q is [] → ⊥
taken_none q is h = none_is_some h.host h.at_place

taken_split : (q : Bool) (is before : List Members) (t : Members) → IsAnyTaken q is (before ++ t ∷ []) → IsAnyTaken q is before ⊎ HasTakenAddress q is before t
taken_split q is before t h =
    elim (get_split before t h.place h.host h.at_place) [
      | inl in_front ↦
          (let within : h.place < length before = get_within before h.place h.host in_front in
          inl (record { place = h.place; host = h.host; at_place = in_front; taken = (rw (take-append-le h.place before (t ∷ []) (omega arith)) at h.taken) }))
      | inr (last, same) ↦
          (let whole : take h.place (before ++ t ∷ []) ≡ before = ap (λ n. take n (before ++ t ∷ [])) last ∙ take-append_seam before (t ∷ []) in
          let taken : HasTakenAddress q is before h.host = (rw whole at h.taken) in
          inr (subst (λ x. HasTakenAddress q is before x) (sym same) taken))
    ]

taken_join : (q : Bool) (is before : List Members) (t : Members) → IsAnyTaken q is before ⊎ HasTakenAddress q is before t → IsAnyTaken q is (before ++ t ∷ [])
taken_join q is before t (inl h) = record {
  place = h.place;
  host = h.host;
  at_place = get_front before (t ∷ []) h.place h.host h.at_place;
  taken = (let within : h.place < length before = get_within before h.place h.host h.at_place in rw (take-append-le h.place before (t ∷ []) (omega arith)) h.taken);
}
taken_join q is before t (inr own) = record {
  place = length before;
  host = t;
  at_place = get_last before t;
  taken = rw (take-append_seam before (t ∷ [])) own;
}

-- ---- the places of a table

own_key : (q : Bool) (f : ConfigFault) (before : List Members) (t : Members) (es : List Explained) → ArePlacesOf (KeyHas q t f) (IsKnownPlace (section.Interface (length before)) t) keys_of_interface es
    → Tells (HasInterfaceFault q t f) es
own_key q f before t es are = tells_same _ _ es (interface_fault_of q t f) (interface_keys_have q t f) (tells_keys _ _ keys_of_interface es are)

host_key : (q : Bool) (f : ConfigFault) (before : List Members) (t : Members) (es : List Explained) → ArePlacesOf (KeyHas q t f) (IsKnownPlace (section.Host (length before)) t) keys_of_host es
    → Tells (HasHostFault t f) es
host_key q f before t es are = tells_same _ _ es (host_fault_of q t f) (host_keys_have q t f) (tells_keys _ _ keys_of_host es are)

module _ (t : Members) where
  abbrev Q : Bool
  Q = asks_rfc3021 t

  abbrev Interfaces : ConfigFault → List Explained → Type 0
  Interfaces f own = AreAllPlaces (AreInterfacePlaces Q f) (interface_tables t) own

  abbrev Hosts : ConfigFault → List Explained → Type 0
  Hosts f last = AreAllPlaces (AreHostPlaces Q (interface_tables t) f) (host_tables t) last

  at_top : (f : ConfigFault) (es : List Explained) → ArePlacesOf (KeyHas Q t f) (IsKnownPlace section.Top t) keys_at_top es → Tells (HasTopFault t f) es
  at_top f es are = tells_same _ _ es (top_fault_of Q t f) (top_keys_have Q t f) (tells_keys _ _ keys_at_top es are)

  key_fault : (f : ConfigFault) (top own last : List Explained) → ArePlacesOf (KeyHas Q t f) (IsKnownPlace section.Top t) keys_at_top top
      → ((before : List Members) (u : Members) (es : List Explained) → AreInterfacePlaces Q f (length before) before u es → Tells (HasInterfaceFault Q u f) es)
      → ((before : List Members) (u : Members) (es : List Explained) → AreHostPlaces Q (interface_tables t) f (length before) before u es → Tells (HasHostFault u f) es) → Interfaces f own → Hosts f last
      → Tells (HasKeyFault t f) (top ++ (own ++ last))
  key_fault f top own last are here host_here interfaces hosts =
      tells_both _ _ top (own ++ last) (at_top f top are)
      (tells_both _ _ own last (tells_any (AreInterfacePlaces Q f) (λ i. HasInterfaceFault Q i f) here (interface_tables t) own interfaces)
      (tells_any (AreHostPlaces Q (interface_tables t) f) (λ h. HasHostFault h f) host_here (host_tables t) last hosts))

  -- no key at the top has a fault of several keys
  none_at_top : (f : ConfigFault) (F : Type 0) (top own : List Explained) → (config_fault_number f < 6 → ⊥) → ArePlacesOf (KeyHas Q t f) (IsKnownPlace section.Top t) keys_at_top top → Tells F own
      → Tells F (top ++ own)
  none_at_top f F top own high are later =
      tells_same _ _ (top ++ own) (λ h. elim h [ inl has ↦ absurd (high (let low = any_low Q t f keys_at_top has in omega (arith, low))) | inr fact ↦ fact ]) inr
      (tells_both _ _ top own (tells_keys _ _ keys_at_top top are) later)

  -- hosts have no interval
  none_of_hosts : (F : Type 0) (own last : List Explained) → Tells F own → Hosts fault.DeadNotOverHello last → Tells F (own ++ last)
  none_of_hosts F own last first hosts =
      let Keys : Members → Type 0 = λ h. Any (KeyHas Q h fault.DeadNotOverHello) keys_of_host in
      let later : Tells (Any Keys (host_tables t)) last =
      tells_any (AreHostPlaces Q (interface_tables t) fault.DeadNotOverHello) Keys (λ before u es is. tells_keys _ _ keys_of_host es is) (host_tables t) last hosts in
      tells_same _ _ (own ++ last) (λ h. elim h [ inl fact ↦ fact | inr (i, u, lt, at, has) ↦ absurd (let low = any_low Q u fault.DeadNotOverHello keys_of_host has in omega (arith, low)) ]) inl
      (tells_both _ _ own last first later)

  of_parts : (f : ConfigFault) (top own last : List Explained) → AreTopPlaces t f top → Interfaces f own → Hosts f last → Tells (HasConfigFault t f) (top ++ (own ++ last))
  of_parts fault.NotToml top own last are all hosts = key_fault fault.NotToml top own last are (own_key Q fault.NotToml) (host_key Q fault.NotToml) all hosts
  of_parts fault.Missing top own last are all hosts = key_fault fault.Missing top own last are (own_key Q fault.Missing) (host_key Q fault.Missing) all hosts
  of_parts fault.Type top own last are all hosts = key_fault fault.Type top own last are (own_key Q fault.Type) (host_key Q fault.Type) all hosts
  of_parts fault.Range top own last are all hosts = key_fault fault.Range top own last are (own_key Q fault.Range) (host_key Q fault.Range) all hosts
  of_parts fault.ZeroCost top own last are all hosts = key_fault fault.ZeroCost top own last are (own_key Q fault.ZeroCost) (host_key Q fault.ZeroCost) all hosts
  of_parts fault.SamePrefix top own last are all hosts =
      none_at_top fault.SamePrefix _ top (own ++ last) (λ few. omega (arith, few)) are
      (tells_both _ _ own last
      (tells_all (AreInterfacePlaces Q fault.SamePrefix) (HaveSamePrefix Q) (λ before u. Any (λ first. AreInConflict Q first u) before) (prefix_none Q) (prefix_split Q) (prefix_join Q)
      (λ before u es is. tells_where _ _ es is) (interface_tables t) own all)
      (tells_all (AreHostPlaces Q (interface_tables t) fault.SamePrefix) (IsAnyTaken Q (interface_tables t)) (HasTakenAddress Q (interface_tables t)) (taken_none Q (interface_tables t))
      (taken_split Q (interface_tables t)) (taken_join Q (interface_tables t)) (λ before u es is. tells_where _ _ es is) (host_tables t) last hosts))
  of_parts fault.DeadNotOverHello top own last are all hosts =
      none_at_top fault.DeadNotOverHello _ top (own ++ last) (λ few. omega (arith, few)) are
      (none_of_hosts _ own last (tells_any (AreInterfacePlaces Q fault.DeadNotOverHello) IsDeadNotOverHello (λ before u es is. tells_where _ _ es is) (interface_tables t) own all) hosts)
  of_parts fault.Unknown top own last are all hosts =
      tells_both _ _ top (own ++ last) (tells_keys _ _ (keys_of t) top are)
      (tells_both _ _ own last (tells_any (AreInterfacePlaces Q fault.Unknown) (HasOtherKey interface_keys) (λ before u es is. tells_keys _ _ (keys_of u) es is) (interface_tables t) own all)
      (tells_any (AreHostPlaces Q (interface_tables t) fault.Unknown) (HasOtherKey host_keys) (λ before u es is. tells_keys _ _ (keys_of u) es is) (host_tables t) last hosts))
  of_parts fault.Memory top own last are all hosts = key_fault fault.Memory top own last are (own_key Q fault.Memory) (host_key Q fault.Memory) all hosts

  pub tells_fault : (f : ConfigFault) (es : List Explained) → AreTablePlaces t f es → Tells (HasConfigFault t f) es
  tells_fault f es are = rw are.all (of_parts f are.at_top are.of_interfaces are.of_hosts are.top are.interfaces are.hosts)

-- ---- one fault after the other

module _ (Holds : ConfigFault → Type 0) (ArePlaces : ConfigFault → List Explained → Type 0) where
  pub held_more : (f : ConfigFault) (e : FaultExplained) (fs : List ConfigFault) (es : List FaultExplained) → AreFaultsExplained Holds ArePlaces fs es → Holds f → e.fault ≡ f → ArePlaces f e.places.items
      → AreFaultsExplained Holds ArePlaces (fs ++ f ∷ []) (es ++ e ∷ [])
  held_more f e _ _ no_fault_more has is places = holds_here has is places no_fault_more
  held_more f e _ _ (holds_here {fs = fs} {es = es} first at are rest) has is places = holds_here first at are (held_more f e fs es rest has is places)
  held_more f e _ _ (holds_not {fs = fs} {es = es} none rest) has is places = holds_not none (held_more f e fs es rest has is places)

  pub passed_more : (f : ConfigFault) (fs : List ConfigFault) (es : List FaultExplained) → AreFaultsExplained Holds ArePlaces fs es → (Holds f → ⊥) → AreFaultsExplained Holds ArePlaces (fs ++ f ∷ []) es
  passed_more f _ _ no_fault_more free = holds_not free no_fault_more
  passed_more f _ _ (holds_here {fs = fs} {es = es} first at are rest) free = holds_here first at are (passed_more f fs es rest free)
  passed_more f _ _ (holds_not {fs = fs} {es = es} none rest) free = holds_not none (passed_more f fs es rest free)

  pub held_next : (all : List ConfigFault) (i : ℕ) (f : ConfigFault) (e : FaultExplained) (es : List FaultExplained) → i < length all → f ≡ get_or all i f → AreFaultsExplained Holds ArePlaces (take i all) es → Holds f
      → e.fault ≡ f → ArePlaces f e.places.items → AreFaultsExplained Holds ArePlaces (take (i + 1) all) (es ++ e ∷ [])
  held_next all i f e es lt at so_far has is places = rw (take_more all i f lt, ← at) (held_more f e (take i all) es so_far has is places)

  pub passed_next : (all : List ConfigFault) (i : ℕ) (f : ConfigFault) (es : List FaultExplained) → i < length all → f ≡ get_or all i f → AreFaultsExplained Holds ArePlaces (take i all) es → (Holds f → ⊥)
      → AreFaultsExplained Holds ArePlaces (take (i + 1) all) es
  passed_next all i f es lt at so_far free = rw (take_more all i f lt, ← at) (passed_more f (take i all) es so_far free)

-- ---- the faults of a text

abbrev AreOfTables : List ConfigFault → Type 0
AreOfTables [] = ⊤
AreOfTables (f ∷ fs) = (f ≡ fault.NotToml → ⊥) × AreOfTables fs

module _ (text : List ℕ) (t : Members) (parsed : parse_document text ≡ Some t) where
  of_table : (f : ConfigFault) → (u : Members) × (parse_document text ≡ Some u) × HasConfigFault u f → HasConfigFault t f
  of_table f (u, is, has) = subst (λ (x : Members). HasConfigFault x f) (same_Some u t (sym is ∙ parsed)) has

  table_has : (f : ConfigFault) → TextHasFault text f → HasConfigFault t f
  table_has fault.NotToml h = absurd (none_is_some t (sym h ∙ parsed))
  table_has fault.Missing h = of_table fault.Missing h
  table_has fault.Type h = of_table fault.Type h
  table_has fault.Range h = of_table fault.Range h
  table_has fault.ZeroCost h = of_table fault.ZeroCost h
  table_has fault.SamePrefix h = of_table fault.SamePrefix h
  table_has fault.DeadNotOverHello h = of_table fault.DeadNotOverHello h
  table_has fault.Unknown h = of_table fault.Unknown h
  table_has fault.Memory h = of_table fault.Memory h

  text_has : (f : ConfigFault) → (f ≡ fault.NotToml → ⊥) → HasConfigFault t f → TextHasFault text f
  text_has fault.NotToml other h = absurd (other refl)
  text_has fault.Missing other h = (t, parsed, h)
  text_has fault.Type other h = (t, parsed, h)
  text_has fault.Range other h = (t, parsed, h)
  text_has fault.ZeroCost other h = (t, parsed, h)
  text_has fault.SamePrefix other h = (t, parsed, h)
  text_has fault.DeadNotOverHello other h = (t, parsed, h)
  text_has fault.Unknown other h = (t, parsed, h)
  text_has fault.Memory other h = (t, parsed, h)

  text_places : (f : ConfigFault) (es : List Explained) → (f ≡ fault.NotToml → ⊥) → AreTablePlaces t f es → IsExplained text f es
  text_places fault.NotToml es other h = absurd (other refl)
  text_places fault.Missing es other h = (t, parsed, h)
  text_places fault.Type es other h = (t, parsed, h)
  text_places fault.Range es other h = (t, parsed, h)
  text_places fault.ZeroCost es other h = (t, parsed, h)
  text_places fault.SamePrefix es other h = (t, parsed, h)
  text_places fault.DeadNotOverHello es other h = (t, parsed, h)
  text_places fault.Unknown es other h = (t, parsed, h)
  text_places fault.Memory es other h = (t, parsed, h)

  of_text : (fs : List ConfigFault) (es : List FaultExplained) → AreOfTables fs → AreFaultsExplained (HasConfigFault t) (AreTablePlaces t) fs es → AreFaultsExplained (TextHasFault text) (IsExplained text) fs es
  of_text _ _ others no_fault_more = no_fault_more
  of_text _ _ others (holds_here {f = f} {fs = fs} {e = e} {es = es} has is places rest) =
      holds_here (text_has f others.0 has) is (text_places f e.places.items others.0 places) (of_text fs es others.1 rest)
  of_text _ _ others (holds_not {f = f} {fs = fs} {es = es} none rest) = holds_not (λ h. none (table_has f h)) (of_text fs es others.1 rest)

  never_memory : TextHasFault text fault.Memory → ⊥
  never_memory h = elim (table_has fault.Memory h) [
    | inl top ↦ (let low = any_low (asks_rfc3021 t) t fault.Memory keys_at_top (top_keys_have (asks_rfc3021 t) t fault.Memory top) in omega (arith, low))
    | inr (inl (i, u, lt, at, has)) ↦
        (let low = any_low (asks_rfc3021 t) u fault.Memory keys_of_interface (interface_keys_have (asks_rfc3021 t) u fault.Memory has) in omega (arith, low))
    | inr (inr (i, u, lt, at, has)) ↦ (let low = any_low (asks_rfc3021 t) u fault.Memory keys_of_host (host_keys_have (asks_rfc3021 t) u fault.Memory has) in omega (arith, low))
  ]

  pub all_of_table : (es : List FaultExplained) → AreFaultsExplained (HasConfigFault t) (AreTablePlaces t) faults_of_tables es → AreAllExplained text es
  all_of_table es are =
      holds_not (λ none. none_is_some t (sym none ∙ parsed))
      (passed_more (TextHasFault text) (IsExplained text) fault.Memory faults_of_tables es
      (of_text faults_of_tables es ((λ e. cc), ((λ e. cc), ((λ e. cc), ((λ e. cc), ((λ e. cc), ((λ e. cc), ((λ e. cc), tt))))))) are) never_memory)

-- a text that is no TOML has that fault alone
pub all_of_no_toml : (text : List ℕ) (e : FaultExplained) → parse_document text ≡ None → e.fault ≡ fault.NotToml → IsLinePlace text e.places.items → AreAllExplained text (e ∷ [])
all_of_no_toml text e none is at =
    let free : (P : Members → Type 0) → (t : Members) × (parse_document text ≡ Some t) × P t → ⊥ = λ P h. none_is_some h.0 (sym none ∙ h.1) in
    holds_here none is at
    (holds_not (free _) (holds_not (free _) (holds_not (free _) (holds_not (free _) (holds_not (free _) (holds_not (free _) (holds_not (free _) (holds_not (free _) no_fault_more))))))))
