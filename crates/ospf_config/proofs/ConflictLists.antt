-- Conflicts among addresses, and among the tables that they stand in.
use Rattle.std.proofs.Common.{◌≡◌, ◌↔◌, ℕ, zero, suc, ◌<◌, Bool, List, [], ◌∷◌, length, get_or, Option, Some, None, Ok, Err, decimal, codes, inl, inr, refl, sym, ap, ◌∙◌, subst, arith}
use Rattle.std.specs.Prelude.{Any, AllPairs, slice_get}
use Rattle.std.specs.List.{AllZip}
use Rattle.ospf_config.specs.declared.address.InterfaceAddress.{InterfaceAddress}
use Rattle.std.proofs.lemmas.Option.{same_Some}
use Rattle.std.proofs.lemmas.Fmt.{decimal_injective}
use Rattle.toml.specs.Data.{Data, Members, get_member, as_str}
use Rattle.ospf_base.specs.Text.{IsDottedNumber}
use Rattle.ospf_config.specs.declared.fault.ConfigFault.{ConfigFault}
use Rattle.ospf_config.specs.declared.fault.ConfigFault.TheVariants as fault
use Rattle.ospf_config.specs.declared.interface.Interface.{Interface}
use Rattle.ospf_config.specs.Reading.{ReadsValue, Required}
use Rattle.ospf_config.specs.Texts.{IsAddressText}
use Rattle.ospf_config.specs.Keys.{MayHave31Bits, ReadsInterfaceAddress}
use Rattle.ospf_config.specs.Tables.{HaveSamePrefix}
use Rattle.ospf_config.specs.Interfaces.{IsInterfaceOf}
use Rattle.ospf_config.specs.Conflicts.{Conflict, one_prefix, one_address, HasConflict, network_part}
use Rattle.ospf_base.proofs.Dotted.{dotted_one, one_cut}
use Rattle.ospf_config.proofs.AddressTexts.{dotted_no_slash}
use Rattle.ospf_config.proofs.PeerLists.{none_is_some}

pub found_first : (all rest : List InterfaceAddress) (x : InterfaceAddress) (xs : List InterfaceAddress) → rest ≡ x ∷ xs → (HasConflict all ↔ HasConflict rest) → Any (Conflict x) xs → HasConflict all
found_first all rest x xs parts same some = same.1 (rw parts (inl some))

pub none_first : (all rest : List InterfaceAddress) (x : InterfaceAddress) (xs : List InterfaceAddress) → rest ≡ x ∷ xs → (HasConflict all ↔ HasConflict rest) → (Any (Conflict x) xs → ⊥)
    → HasConflict all ↔ HasConflict xs
none_first all rest x xs parts same none = (
  (λ h. elim (let before : HasConflict rest = same.0 h in let split : HasConflict (x ∷ xs) = rw parts at before in split) [ inl some ↦ absurd (none some) | inr later ↦ later ]),
  λ h. same.1 (rw parts (inr h)),
)

-- ---- the tables that addresses stand in

abbrev Reads : Bool → Members → InterfaceAddress → Type 0
Reads q t a = ReadsInterfaceAddress q t (Ok a)

pub pair_at : {B : Type 0} (R : Members → B → Type 0) (ts : List Members) (xs : List B) (k : ℕ) (d : B) → AllZip R ts xs → k < length xs
    → (t : Members) × (slice_get ts k ≡ Some t) × R t (get_or xs k d)
pair_at R [] [] k d h lt = absurd (omega arith)
pair_at R [] (x ∷ xs) k d h lt = absurd h
pair_at R (t ∷ ts) [] k d h lt = absurd h
pair_at R (t ∷ ts) (x ∷ xs) zero d h lt = (t, refl, h.0)
pair_at R (t ∷ ts) (x ∷ xs) (suc k) d h lt = pair_at R ts xs k d h.1 (omega arith)

pair_get : (q : Bool) (ts : List Members) (xs : List InterfaceAddress) (k : ℕ) (t : Members) → AllZip (Reads q) ts xs → slice_get ts k ≡ Some t
    → (a : InterfaceAddress) × (k < length xs) × (get_or xs k a ≡ a) × Reads q t a
pair_get q [] xs k t h at = absurd (none_is_some t at)
pair_get q (u ∷ ts) [] k t h at = absurd h
pair_get q (u ∷ ts) (x ∷ xs) zero t h at = (x, omega arith, refl, subst (λ v. Reads q v x) (same_Some u t at) h.0)
pair_get q (u ∷ ts) (x ∷ xs) (suc k) t h at = (let (a, lt, is, r) = pair_get q ts xs k t h.1 at in (a, omega arith, is, r))

-- as many as tables
pub pairs_length : {B : Type 0} (R : Members → B → Type 0) (ts : List Members) (xs : List B) → AllZip R ts xs → length ts ≡ length xs
pairs_length R [] [] h = refl
pairs_length R [] (x ∷ xs) h = absurd h
pairs_length R (t ∷ ts) [] h = absurd h
pairs_length R (t ∷ ts) (x ∷ xs) h = ap suc (pairs_length R ts xs h.1)

later : (q : Bool) (t : Members) (ts : List Members) → HaveSamePrefix q ts → HaveSamePrefix q (t ∷ ts)
later q t ts h = record {
  i = suc h.i;
  j = suc h.j;
  before = (let lt : h.i < h.j = h.before in omega arith);
  first = h.first;
  second = h.second;
  at_first = h.at_first;
  at_second = h.at_second;
  a = h.a;
  b = h.b;
  first_address = h.first_address;
  second_address = h.second_address;
  conflict = h.conflict;
}

pub same_prefix : (q : Bool) (ts : List Members) (xs : List InterfaceAddress) → AllZip (Reads q) ts xs → HasConflict xs → HaveSamePrefix q ts
same_prefix q [] [] h c = absurd c
same_prefix q [] (x ∷ xs) h c = absurd h
same_prefix q (t ∷ ts) [] h c = absurd h
same_prefix q (t ∷ ts) (x ∷ xs) h (inr c) = later q t ts (same_prefix q ts xs h.1 c)
same_prefix q (t ∷ ts) (x ∷ xs) h (inl (k, y, lt, at, c)) =
    let (u, is, r) = pair_at (Reads q) ts xs k y h.1 lt in
    let here : Reads q u y = subst (Reads q u) at r in
    record { i = 0; j = suc k; before = omega arith; first = t; second = u; at_first = refl; at_second = is; a = x; b = y; first_address = h.0; second_address = here; conflict = c }

-- ---- a text has one address

text_one : (A : Type 0) (text : List ℕ) (a b : InterfaceAddress) → IsAddressText A text a → IsAddressText A text b → (a.address.0 ≡ b.address.0) × (a.length ≡ b.length)
text_one A text a b of_a of_b =
    let p = of_a.prefix in
    let q = of_b.prefix in
    let (d, l) = one_cut 47 p.dotted (decimal a.length) q.dotted (decimal b.length) (dotted_no_slash p.dotted a.address.0 p.address_spelled) (dotted_no_slash q.dotted b.address.0 q.address_spelled)
    (sym p.spelled ∙ q.spelled) in
    let spelled : IsDottedNumber p.dotted b.address.0 = subst (λ s. IsDottedNumber s b.address.0) (sym d) q.address_spelled in (
      dotted_one p.dotted a.address.0 b.address.0 (omega (arith, a.host.octet_high)) (omega (arith, b.host.octet_high)) p.address_spelled spelled,
      decimal_injective a.length b.length (omega (arith, a.host.short)) (omega (arith, b.host.short)) l,
    )

ok_no_error : (a : InterfaceAddress) (f : ConfigFault) → Ok a ≡ Err f → ⊥
ok_no_error a f e = cc

value_one : (A : Type 0) (o : Option (List ℕ)) (a b : InterfaceAddress) → ReadsValue (IsAddressText A) o (Ok a) → ReadsValue (IsAddressText A) o (Ok b) → (a.address.0 ≡ b.address.0) × (a.length ≡ b.length)
value_one A None a b p q = absurd (ok_no_error a fault.Type p)
value_one A (Some text) a b p q = text_one A text a b p q

address_one : (A : Type 0) (o : Option Data) (a b : InterfaceAddress) → Required as_str (IsAddressText A) o (Ok a) → Required as_str (IsAddressText A) o (Ok b) → (a.address.0 ≡ b.address.0) × (a.length ≡ b.length)
address_one A None a b p q = absurd (ok_no_error a fault.Missing p)
address_one A (Some d) a b p q = value_one A (as_str d) a b p q

-- a table has one address
pub table_one : (r : Bool) (t : Members) (a b : InterfaceAddress) → ReadsInterfaceAddress r t (Ok a) → ReadsInterfaceAddress r t (Ok b) → (a.address.0 ≡ b.address.0) × (a.length ≡ b.length)
table_one r t a b p q = address_one (MayHave31Bits r t) (get_member (codes "address") t) a b p q

same_network : (a b : InterfaceAddress) → a.address.0 ≡ b.address.0 → a.length ≡ b.length → network_part a ≡ network_part b
same_network a b e f = rw (e, f) refl

conflict_same : (a b c d : InterfaceAddress) → (a.address.0 ≡ c.address.0) × (a.length ≡ c.length) → (b.address.0 ≡ d.address.0) × (b.length ≡ d.length) → Conflict a b → Conflict c d
conflict_same a b c d p q (one_prefix l n) = one_prefix (sym p.1 ∙ l ∙ q.1) (sym (same_network a c p.0 p.1) ∙ n ∙ same_network b d q.0 q.1)
conflict_same a b c d p q (one_address e) = one_address (sym p.0 ∙ e ∙ q.0)

module _ (q : Bool) (f s : Members) (a b : InterfaceAddress) (fa : Reads q f a) (sb : Reads q s b) (c : Conflict a b) where
  conflict_at : (ts : List Members) (xs : List InterfaceAddress) → AllZip (Reads q) ts xs → (i j : ℕ) → i < j → slice_get ts i ≡ Some f → slice_get ts j ≡ Some s → HasConflict xs
  conflict_at [] xs h i j lt ai aj = absurd (none_is_some f ai)
  conflict_at (t ∷ ts) [] h i j lt ai aj = absurd h
  conflict_at (t ∷ ts) (x ∷ xs) h i zero lt ai aj = absurd (omega arith)
  conflict_at (t ∷ ts) (x ∷ xs) h zero (suc j) lt ai aj =
      let (y, within, at, r) = pair_get q ts xs j s h.1 aj in
      let x_reads : Reads q f x = subst (λ u. Reads q u x) (same_Some t f ai) h.0 in
      inl (j, y, within, at, conflict_same a b x y (table_one q f a x fa x_reads) (table_one q s b y sb r) c)
  conflict_at (t ∷ ts) (x ∷ xs) h (suc i) (suc j) lt ai aj = inr (conflict_at ts xs h.1 i j (omega arith) ai aj)

pub has_conflict_of : (q : Bool) (ts : List Members) (xs : List InterfaceAddress) → AllZip (Reads q) ts xs → HaveSamePrefix q ts → HasConflict xs
has_conflict_of q ts xs h p = conflict_at q p.first p.second p.a p.b p.first_address p.second_address p.conflict ts xs h p.i p.j p.before p.at_first p.at_second

-- ---- interfaces

pub interfaces_apart : (q : Bool) (ts : List Members) (xs : List Interface) → AllZip (IsInterfaceOf q) ts xs → (HaveSamePrefix q ts → ⊥) → AllPairs (λ x y. Conflict x.address y.address → ⊥) xs
interfaces_apart q ts xs h none i j d lt within c =
    let (t, at, r) = pair_at (IsInterfaceOf q) ts xs i d h (omega arith) in
    let (u, bt, s) = pair_at (IsInterfaceOf q) ts xs j d h within in
    none (record {
      i = i;
      j = j;
      before = lt;
      first = t;
      second = u;
      at_first = at;
      at_second = bt;
      a = (get_or xs i d).address;
      b = (get_or xs j d).address;
      first_address = r.address;
      second_address = s.address;
      conflict = c;
    })

-- the addresses of two tables are in conflict however they are read
pub conflict_of_both : (q : Bool) (f s : Members) (a b c d : InterfaceAddress) → ReadsInterfaceAddress q f (Ok a) → ReadsInterfaceAddress q s (Ok b) → ReadsInterfaceAddress q f (Ok c) → ReadsInterfaceAddress q s (Ok d) → Conflict a b → Conflict c d
conflict_of_both q f s a b c d fa sb fc sd h = conflict_same a b c d (table_one q f a c fa fc) (table_one q s b d sb sd) h
