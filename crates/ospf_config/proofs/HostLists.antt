-- Hosts, and the tables that they stand in.
use Rattle.std.proofs.Common.{◌≡◌, ◌↔◌, ℕ, zero, suc, ◌+◌, ◌<◌, ◌≤◌, Bool, true, false, List, [], ◌∷◌, length, take, get_or, Option, Some, None, option_and_then, unwrap_or, Result, Ok, Err, codes, inl, inr, refl, sym, ap, ◌∙◌, subst, arith}
use Rattle.std.specs.Prelude.{All, IsSome, IsTrue, slice_get}
use Rattle.std.proofs.lemmas.Bool.{cases_lt, false≢true}
use Rattle.std.proofs.lemmas.Option.{same_Some, slice_get_within}
use Rattle.toml.specs.Data.{Data, string, integer, float, boolean, datetime, array, table, Items, item, Members, get_member, as_table, as_array, as_str}
use Rattle.toml.specs.Text.{are_tables}
use Rattle.toml.specs.View.{view, items_view}
use Rattle.toml.specs.declared.value.Value.{Value}
use Rattle.ospf_base.specs.declared.ids.Addr.{Addr}
use Rattle.ospf_base.specs.declared.interface.InterfaceKind.{InterfaceKind}
use Rattle.ospf_base.specs.declared.interface.InterfaceKind.TheVariants.{PointToPoint}
use Rattle.ospf_base.proofs.Dotted.{dotted_one}
use Rattle.ospf_config.specs.declared.address.InterfaceAddress.{InterfaceAddress}
use Rattle.ospf_config.specs.declared.fault.ConfigFault.{ConfigFault}
use Rattle.ospf_config.specs.declared.fault.ConfigFault.TheVariants as fault
use Rattle.ospf_config.specs.Host.{IsUnicast}
use Rattle.ospf_config.specs.Keys.{ReadsKind, ReadsInterfaceAddress, ReadsHostAddress}
use Rattle.ospf_config.specs.Reading.{ReadsValue, Required, Optional}
use Rattle.ospf_config.specs.Tables.{IsAnyTaken, HasTakenAddress, AreHostTables, as_tables, tables_among}
use Rattle.ospf_config.specs.Texts.{IsAddressText, IsHostText}
use Rattle.ospf_config.proofs.PeerLists.{none_is_some, no, yes, known}
use Rattle.ospf_config.proofs.Singles.{address_single, host_address_single, kind_single}
use Rattle.ospf_config.proofs.TableLists.{as_tables-array}

-- ---- the key `host`

module _ (o : Option Data) (d : Data) (ds : Items) (at : Some d ≡ o) (list : Some ds ≡ as_array d) where
  pub hosts_no_tables : are_tables ds ≡ false → Optional as_tables AreHostTables [] o (Err fault.Type)
  hosts_no_tables h = rw (← at) (rw (as_tables-array d ds list, h) refl)

  pub hosts_out : are_tables ds ≡ true → (length (tables_among ds) ≤ 32 → ⊥) → Optional as_tables AreHostTables [] o (Err fault.Range)
  hosts_out h out = rw (← at) (rw (as_tables-array d ds list, h) (refl, λ us means. (let same : length (tables_among ds) ≡ length us = ap length means.0 in out (omega (arith, means)))))

  pub hosts_in : are_tables ds ≡ true → length (tables_among ds) ≤ 32 → (f : ConfigFault) → Optional as_tables AreHostTables [] o (Err f) → ⊥
  hosts_in h few f reads =
      let here : ReadsValue AreHostTables (as_tables d) (Err f) = rw (← at) at reads in
      let there = rw (as_tables-array d ds list, h) at here in
      there.1 (tables_among ds) (refl, few)

-- where the key has no fault, it has at most 32 tables
pub host_number : (o : Option Data) → ((f : ConfigFault) → Optional as_tables AreHostTables [] o (Err f) → ⊥) → length (unwrap_or (option_and_then as_tables o) []) ≤ 32
host_number None free = omega arith
host_number (Some d) free =
    elim (known (as_tables d)) [
      | no none ↦ absurd (free fault.Type (rw none refl))
      | yes ts is ↦ rw is
          (elim (cases_lt 32 (length ts)) [
            | inl many ↦ absurd (free fault.Range (rw is (refl, λ us means. (let same : length ts ≡ length us = ap length means.0 in omega (arith, means)))))
            | inr few ↦ few
          ])
    ]

-- ---- values that are all tables

tables_first : (d : Data) (ds : Items) (t : Members) → as_table d ≡ Some t → tables_among (item d ds) ≡ t ∷ tables_among ds
tables_first (table u) ds t e = ap (λ x. x ∷ tables_among ds) (same_Some u t e)
tables_first (string s) ds t e = absurd (none_is_some t e)
tables_first (integer z) ds t e = absurd (none_is_some t e)
tables_first (float x) ds t e = absurd (none_is_some t e)
tables_first (boolean b) ds t e = absurd (none_is_some t e)
tables_first (datetime dt) ds t e = absurd (none_is_some t e)
tables_first (array xs) ds t e = absurd (none_is_some t e)

abbrev AllTables : List Value → Type 0
AllTables vs = All (λ v. IsSome (as_table (view v))) vs

first_table : (v : Value) (vs : List Value) → AllTables (v ∷ vs) → (t : Members) × (as_table (view v) ≡ Some t)
first_table v vs all =
    elim (known (as_table (view v))) [
      | no none ↦ absurd (let some : IsSome (as_table (view v)) = all 0 v (omega arith) in false≢true (rw none at some))
      | yes t is ↦ (t, is)
    ]

rest_tables : (v : Value) (vs : List Value) → AllTables (v ∷ vs) → AllTables vs
rest_tables v vs all i d lt = all (suc i) d (omega arith)

pub take_tables : (vs : List Value) (k : ℕ) → AllTables vs → tables_among (items_view (take k vs)) ≡ take k (tables_among (items_view vs))
take_tables [] zero all = refl
take_tables [] (suc k) all = refl
take_tables (v ∷ vs) zero all = refl
take_tables (v ∷ vs) (suc k) all =
    let (t, is) = first_table v vs all in
    rw (tables_first (view v) (items_view (take k vs)) t is, tables_first (view v) (items_view vs) t is) (ap (λ ts. t ∷ ts) (take_tables vs k (rest_tables v vs all)))

pub table_place : (vs : List Value) (k : ℕ) (v : Value) (t : Members) → AllTables vs → k < length vs → v ≡ get_or vs k v → as_table (view v) ≡ Some t
    → slice_get (tables_among (items_view vs)) k ≡ Some t
table_place [] k v t all lt here is = absurd (omega arith)
table_place (u ∷ vs) zero v t all lt here is =
    let first : as_table (view u) ≡ Some t = subst (λ x. as_table (view x) ≡ Some t) here is in
    rw (tables_first (view u) (items_view vs) t first) refl
table_place (u ∷ vs) (suc k) v t all lt here is =
    let (s, first) = first_table u vs all in
    rw (tables_first (view u) (items_view vs) s first) (table_place vs k v t (rest_tables u vs all) (omega arith) here is)

pub count_tables : (vs : List Value) → AllTables vs → length (tables_among (items_view vs)) ≡ length vs
count_tables [] all = refl
count_tables (v ∷ vs) all =
    let (t, is) = first_table v vs all in
    rw (tables_first (view v) (items_view vs) t is) (ap suc (count_tables vs (rest_tables v vs all)))

-- ---- hosts whose addresses are taken

module _ (q : Bool) (interfaces : List Members) (vs : List Value) where
  -- none of the hosts so far is taken
  abbrev pub NoneTaken : ℕ → Type 0
  NoneTaken n =
      (k : ℕ) → k < n → (h : Members) → slice_get (tables_among (items_view vs)) k ≡ Some h → HasTakenAddress q interfaces (take k (tables_among (items_view vs))) h → ⊥

  pub none_so_far : NoneTaken 0
  none_so_far k lt h at taken = omega arith

  module _ (all : AllTables vs) (i : ℕ) (v : Value) (t : Members) (lt : i < length vs) (here : v ≡ get_or vs i v) (is : as_table (view v) ≡ Some t) where
    pub taken_here : HasTakenAddress q interfaces (tables_among (items_view (take i vs))) t → IsAnyTaken q interfaces (tables_among (items_view vs))
    taken_here taken = record { place = i; host = t; at_place = table_place vs i v t all lt here is; taken = rw (take_tables vs i all) at taken }

    pub not_taken_here : (HasTakenAddress q interfaces (tables_among (items_view (take i vs))) t → ⊥) → NoneTaken i → NoneTaken (i + 1)
    not_taken_here free none k less h at taken =
        elim (cases_lt k i) [
          | inl before ↦ none k before h at taken
          | inr le ↦
              (let same : k ≡ i = omega arith in
              let at_i : slice_get (tables_among (items_view vs)) i ≡ Some h = subst (λ n. slice_get (tables_among (items_view vs)) n ≡ Some h) same at in
              let host : t ≡ h = same_Some t h (sym (table_place vs i v t all lt here is) ∙ at_i) in
              let taken_i : HasTakenAddress q interfaces (take i (tables_among (items_view vs))) h = subst (λ n. HasTakenAddress q interfaces (take n (tables_among (items_view vs))) h) same taken in
              let taken_t : HasTakenAddress q interfaces (take i (tables_among (items_view vs))) t = subst (λ x. HasTakenAddress q interfaces (take i (tables_among (items_view vs))) x) (sym host) taken_i in
              free (rw (take_tables vs i all) taken_t))
        ]

  pub none_at_all : AllTables vs → (n : ℕ) → length vs ≤ n → NoneTaken n → IsAnyTaken q interfaces (tables_among (items_view vs)) → ⊥
  none_at_all all n le none any =
      let within = slice_get_within (tables_among (items_view vs)) any.place any.host any.at_place in
      let long = count_tables vs all in
      none any.place (omega arith) any.host any.at_place any.taken

-- ---- a text has one address

host_text_one : (text : List ℕ) (a b : Addr) → IsHostText text a → IsHostText text b → a.0 ≡ b.0
host_text_one text a b p q = dotted_one text a.0 b.0 (omega (arith, p.unicast.octet_high)) (omega (arith, q.unicast.octet_high)) p.spelled q.spelled

host_value_one : (o : Option (List ℕ)) (a b : Addr) → ReadsValue IsHostText o (Ok a) → ReadsValue IsHostText o (Ok b) → a.0 ≡ b.0
host_value_one None a b p q = absurd (let bad : Ok a ≡ Err fault.Type = p in cc)
host_value_one (Some text) a b p q = host_text_one text a b p q

host_key_one : (o : Option Data) (a b : Addr) → Required as_str IsHostText o (Ok a) → Required as_str IsHostText o (Ok b) → a.0 ≡ b.0
host_key_one None a b p q = absurd (let bad : Ok a ≡ Err fault.Missing = p in cc)
host_key_one (Some d) a b p q = host_value_one (as_str d) a b p q

pub host_one : (t : Members) (a b : Addr) → ReadsHostAddress t (Ok a) → ReadsHostAddress t (Ok b) → a.0 ≡ b.0
host_one t a b p q = host_key_one (get_member (codes "address") t) a b p q

-- ---- keys that have a fault, and prefixes of 31 bits

pub no_kind : (t : Members) (r : Result InterfaceKind ConfigFault) (f : ConfigFault) → r ≡ Err f → ReadsKind t r → ReadsKind t (Ok PointToPoint) → ⊥
no_kind t r f is reads other = let here : ReadsKind t (Err f) = rw is at reads in (kind_single t).none PointToPoint f other here

pub no_host : (t : Members) (r : Result Addr ConfigFault) (f : ConfigFault) (a : Addr) → r ≡ Err f → ReadsHostAddress t r → ReadsHostAddress t (Ok a) → ⊥
no_host t r f a is reads other = let here : ReadsHostAddress t (Err f) = rw is at reads in (host_address_single t).none a f other here

pub no_address : (q : Bool) (t : Members) (r : Result InterfaceAddress ConfigFault) (f : ConfigFault) (a : InterfaceAddress) → r ≡ Err f → ReadsInterfaceAddress q t r → ReadsInterfaceAddress q t (Ok a) → ⊥
no_address q t r f a is reads other = let here : ReadsInterfaceAddress q t (Err f) = rw is at reads in (address_single t q).none a f other here

pub reads_as : (A B : Type 0) → (A ↔ B) → (o : Option (List ℕ)) (r : Result InterfaceAddress ConfigFault) → ReadsValue (IsAddressText A) o r → ReadsValue (IsAddressText B) o r
reads_as A B same None r reads = reads
reads_as A B same (Some text) (Ok a) reads = record { prefix = reads.prefix; allowed = λ long. same.0 (reads.allowed long) }
reads_as A B same (Some text) (Err f) reads = (reads.0, λ a is. reads.1 a (record { prefix = is.prefix; allowed = λ long. same.1 (is.allowed long) }))
