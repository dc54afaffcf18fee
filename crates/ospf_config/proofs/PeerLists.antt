-- Lists of ports.
use Rattle.std.proofs.Common.{◌≡◌, ℕ, zero, suc, ℤ, pos, ◌+◌, ◌<◌, ◌≤◌, true, false, List, [], ◌∷◌, ◌++◌, length, map, take, get_or, Option, Some, None, option_map, is_some, Result, Ok, Err, refl, sym, ap, ◌∙◌, subst, arith}
use Rattle.std.specs.Prelude.{All}
use Rattle.std.specs.List.{list_all}
use Rattle.std.proofs.lemmas.Bool.{false≢true, and_parts}
use Rattle.std.proofs.lemmas.List.{take_more}
use Rattle.std.proofs.lemmas.Option.{same_Some}
use Rattle.toml.specs.Data.{Data, string, integer, float, boolean, datetime, array, table, Items, no_items, item, push_item, as_integer, as_array}
use Rattle.toml.specs.View.{view, items_view}
use Rattle.toml.specs.declared.value.Value.{Value}
use Rattle.toml.proofs.Views.{items_view-push}
use Rattle.ospf_config.specs.declared.fault.ConfigFault.{ConfigFault}
use Rattle.ospf_config.specs.declared.fault.ConfigFault.TheVariants as fault
use Rattle.ospf_config.specs.declared.interface.Port.{Port}
use Rattle.ospf_config.specs.Reading.{ReadsValue, Optional, integers_of, as_integers}
use Rattle.ospf_config.specs.Keys.{IsPort, ArePortNumbers}

abbrev pub numbers : List Port → List ℤ
numbers ports = map (λ (p : Port). pos p.number) ports

pub none_is_some : {A : Type 0} (x : A) → None ≡ Some x → ⊥
none_is_some x e = cc

-- ---- one item

integers-some : (d : Data) (z : ℤ) (ds : Items) → as_integer d ≡ Some z → integers_of (item d ds) ≡ option_map (λ zs. z ∷ zs) (integers_of ds)
integers-some (integer y) z ds e = rw (same_Some y z e) refl
integers-some (string s) z ds e = absurd (none_is_some z e)
integers-some (float x) z ds e = absurd (none_is_some z e)
integers-some (boolean b) z ds e = absurd (none_is_some z e)
integers-some (datetime dt) z ds e = absurd (none_is_some z e)
integers-some (array xs) z ds e = absurd (none_is_some z e)
integers-some (table ms) z ds e = absurd (none_is_some z e)

integers-none : (d : Data) (ds : Items) → as_integer d ≡ None → integers_of (item d ds) ≡ None
integers-none (integer y) ds e = absurd (none_is_some y (sym e))
integers-none (string s) ds e = refl
integers-none (float x) ds e = refl
integers-none (boolean b) ds e = refl
integers-none (datetime dt) ds e = refl
integers-none (array xs) ds e = refl
integers-none (table ms) ds e = refl

-- an option is none or some
pub data Known {A : Type 0} (o : Option A) : Type 0 where
  no : o ≡ None → Known o
  yes : (x : A) → o ≡ Some x → Known o

pub known : {A : Type 0} (o : Option A) → Known o
known None = no refl
known (Some x) = yes x refl

-- ---- all items

tail_map : (z : ℤ) (o : Option (List ℤ)) (zs : List ℤ) → option_map (λ ys. z ∷ ys) o ≡ Some zs → (ys : List ℤ) × (o ≡ Some ys) × (zs ≡ z ∷ ys)
tail_map z None zs e = absurd (none_is_some zs e)
tail_map z (Some ys) zs e = (ys, refl, sym (same_Some _ _ e))

-- integers are read from a list of them
all_integers : (vs : List Value) → list_all (λ v. is_some (as_integer (view v))) vs ≡ true → (zs : List ℤ) × (integers_of (items_view vs) ≡ Some zs)
all_integers [] h = ([], refl)
all_integers (v ∷ vs) h =
    let (here, more) = and_parts (is_some (as_integer (view v))) (list_all (λ v. is_some (as_integer (view v))) vs) h in
    let (zs, rest) = all_integers vs more in
    elim (known (as_integer (view v))) [
      | no none ↦ absurd (false≢true (rw none at here))
      | yes z is ↦ (z ∷ zs, integers-some (view v) z (items_view vs) is ∙ ap (option_map (λ ys. z ∷ ys)) rest)
    ]

not_all_integers : (vs : List Value) → list_all (λ v. is_some (as_integer (view v))) vs ≡ false → integers_of (items_view vs) ≡ None
not_all_integers [] h = absurd (false≢true (sym h))
not_all_integers (v ∷ vs) h =
    elim (known (as_integer (view v))) [
      | no none ↦ integers-none (view v) (items_view vs) none
      | yes z is ↦ integers-some (view v) z (items_view vs) is ∙ ap (option_map (λ ys. z ∷ ys)) (not_all_integers vs (rw is at h))
    ]

-- ports are read from a list of them
all_ports : (vs : List Value) → All (λ v. IsPort (view v)) vs → (ports : List Port) × (integers_of (items_view vs) ≡ Some (numbers ports)) × (length ports ≡ length vs)
all_ports [] h = ([], refl, refl)
all_ports (v ∷ vs) h =
    let here : IsPort (view v) = h 0 v (omega arith) in
    let rest = all_ports vs (λ i d lt. h (suc i) d (omega arith)) in
    (here.port ∷ rest.0, integers-some (view v) (pos here.port.number) (items_view vs) here.is ∙ ap (option_map (λ ys. pos here.port.number ∷ ys)) rest.1, ap suc rest.2)

heads : (P : Value → Type 0) (v : Value) (vs : List Value) → P v → All P vs → All P (v ∷ vs)
heads P v vs here more zero d lt = here
heads P v vs here more (suc i) d lt = more i d (omega arith)

-- what ports are read from is a list of them
pub ports_from : (vs : List Value) (ports : List Port) → integers_of (items_view vs) ≡ Some (numbers ports) → All (λ v. IsPort (view v)) vs × (length ports ≡ length vs)
ports_from [] [] e = ((λ i d lt. absurd (omega arith)), refl)
ports_from [] (p ∷ ports) e = absurd (let bad : [] ≡ pos p.number ∷ numbers ports = same_Some _ _ e in cc)
ports_from (v ∷ vs) [] e =
    elim (known (as_integer (view v))) [
      | no none ↦ absurd (none_is_some [] (sym (integers-none (view v) (items_view vs) none) ∙ e))
      | yes z is ↦
          (let (ys, rest, same) = tail_map z (integers_of (items_view vs)) [] (sym (integers-some (view v) z (items_view vs) is) ∙ e) in
          absurd (let bad : [] ≡ z ∷ ys = same in cc))
    ]
ports_from (v ∷ vs) (p ∷ ports) e =
    elim (known (as_integer (view v))) [
      | no none ↦ absurd (none_is_some (numbers (p ∷ ports)) (sym (integers-none (view v) (items_view vs) none) ∙ e))
      | yes z is ↦
          (let (ys, rest, same) = tail_map z (integers_of (items_view vs)) (numbers (p ∷ ports)) (sym (integers-some (view v) z (items_view vs) is) ∙ e) in
          let both : pos p.number ∷ numbers ports ≡ z ∷ ys = same in
          let z_is : pos p.number ≡ z = (cc) in
          let ys_is : numbers ports ≡ ys = (cc) in
          let more = ports_from vs ports (rest ∙ ap Some (sym ys_is)) in
          (heads (λ v. IsPort (view v)) v vs (record { port = p; is = is ∙ ap Some (sym z_is) }) more.0, ap suc more.1))
    ]

-- ---- the faults of the list

pub type_fault : (vs : List Value) → list_all (λ v. is_some (as_integer (view v))) vs ≡ false → ReadsValue ArePortNumbers (integers_of (items_view vs)) (Err fault.Type)
type_fault vs h = rw (not_all_integers vs h) refl

pub range_fault : (vs : List Value) → list_all (λ v. is_some (as_integer (view v))) vs ≡ true
    → ((ports : List Port) → integers_of (items_view vs) ≡ Some (numbers ports) → length ports ≤ 32 → ⊥) → ReadsValue ArePortNumbers (integers_of (items_view vs)) (Err fault.Range)
range_fault vs h no_ports =
    let (zs, is) = all_integers vs h in
    rw is (refl, λ ports means. no_ports ports (is ∙ ap Some means.0) means.1)

pub no_fault : (vs : List Value) → All (λ v. IsPort (view v)) vs → length vs ≤ 32 → (f : ConfigFault) → ReadsValue ArePortNumbers (integers_of (items_view vs)) (Err f) → ⊥
no_fault vs all few f reads =
    let found = all_ports vs all in
    let here = rw found.1 at reads in
    here.1 found.0 (refl, omega (arith, found.2))

-- ---- one more port

integers-push : (ds : Items) (d : Data) (z : ℤ) (zs : List ℤ) → integers_of ds ≡ Some zs → as_integer d ≡ Some z → integers_of (push_item ds d) ≡ Some (zs ++ z ∷ [])
integers-push no_items d z zs e is = integers-some d z no_items is ∙ ap (λ ys. Some (ys ++ z ∷ [])) (same_Some _ _ e)
integers-push (item c ds) d z zs e is =
    elim (known (as_integer c)) [
      | no none ↦ absurd (none_is_some zs (sym (integers-none c ds none) ∙ e))
      | yes y first ↦
          (let (ys, rest, same) = tail_map y (integers_of ds) zs (sym (integers-some c y ds first) ∙ e) in
          integers-some c y (push_item ds d) first ∙ ap (option_map (λ xs. y ∷ xs)) (integers-push ds d z ys rest is) ∙ ap (λ xs. Some (xs ++ z ∷ [])) (sym same))
    ]

numbers-push : (ports : List Port) (p : Port) → numbers (ports ++ p ∷ []) ≡ numbers ports ++ pos p.number ∷ []
numbers-push [] p = refl
numbers-push (q ∷ ports) p = ap (λ zs. pos q.number ∷ zs) (numbers-push ports p)

pub ports_more : (vs : List Value) (i : ℕ) (v : Value) (ports : List Port) (p : Port) → i < length vs → v ≡ get_or vs i v → integers_of (items_view (take i vs)) ≡ Some (numbers ports)
    → as_integer (view v) ≡ Some (pos p.number) → integers_of (items_view (take (i + 1) vs)) ≡ Some (numbers (ports ++ p ∷ []))
ports_more vs i v ports p lt here so_far is =
    rw (take_more vs i v lt, ← here, items_view-push (take i vs) v, numbers-push ports p)
    (integers-push (items_view (take i vs)) (view v) (pos p.number) (numbers ports) so_far is)

-- ---- one value

pub port_value : (d : Data) (p : Port) → ReadsValue (λ z (q : Port). z ≡ pos q.number) (as_integer d) (Ok p) → as_integer d ≡ Some (pos p.number)
port_value d p reads = elim (known (as_integer d)) [
  | no none ↦ absurd (let bad : Ok p ≡ Err fault.Type = rw none at reads in cc)
  | yes z is ↦ is ∙ ap Some (rw is at reads)
]

pub port_read : (d : Data) (p : Port) → ReadsValue (λ z (q : Port). z ≡ pos q.number) (as_integer d) (Ok p) → IsPort d
port_read d p reads = record { port = p; is = port_value d p reads }

pub port_at : (vs : List Value) (i : ℕ) (v : Value) → i < length vs → v ≡ get_or vs i v → All (λ x. IsPort (view x)) vs → IsPort (view v)
port_at vs i v lt is all = let P : Value → Type 0 = λ x. IsPort (view x) in subst P (sym is) (all i v lt)

-- ---- the key

as_integers-array : (d : Data) (ds : Items) → Some ds ≡ as_array d → as_integers d ≡ integers_of ds
as_integers-array (array xs) ds e = rw (same_Some ds xs e) refl
as_integers-array (integer y) ds e = absurd (none_is_some ds (sym e))
as_integers-array (string s) ds e = absurd (none_is_some ds (sym e))
as_integers-array (float x) ds e = absurd (none_is_some ds (sym e))
as_integers-array (boolean b) ds e = absurd (none_is_some ds (sym e))
as_integers-array (datetime dt) ds e = absurd (none_is_some ds (sym e))
as_integers-array (table ms) ds e = absurd (none_is_some ds (sym e))

module _ (o : Option Data) (d : Data) (ds : Items) (at : Some d ≡ o) (list : Some ds ≡ as_array d) (r : Result (List Port) ConfigFault) where
  pub from_peers : Optional as_integers ArePortNumbers [] o r → ReadsValue ArePortNumbers (integers_of ds) r
  from_peers reads =
      let here : ReadsValue ArePortNumbers (as_integers d) r = rw (← at) at reads in
      rw (as_integers-array d ds list) at here

pub to_ports : (vs : List Value) (ports : List Port) → integers_of (items_view vs) ≡ Some (numbers ports) → length vs ≤ 32 → ReadsValue ArePortNumbers (integers_of (items_view vs)) (Ok ports)
to_ports vs ports is few = rw is (refl, (let from = ports_from vs ports is in omega (arith, from.1)))
