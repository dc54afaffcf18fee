-- The tables of interfaces among values.
use Rattle.std.proofs.Common.{◌≡◌, ◌⊎◌, ℕ, zero, suc, ◌+◌, ◌<◌, ◌≤◌, Bool, true, false, ◌&&◌, List, [], ◌∷◌, ◌++◌, length, take, get_or, Option, Some, None, is_some, option_and_then, unwrap_or, Err, inl, inr, refl, sym, ap, ◌∙◌, subst, if◌then◌else◌, arith}
use Rattle.std.specs.Prelude.{◌↔◌, Any, IsTrue, MatchBool}
use Rattle.std.specs.List.{list_all, AllWithin, AllZip, HoldsAt}
use Rattle.std.proofs.lemmas.List.{get_or_default, take_more}
use Rattle.std.proofs.lemmas.Option.{same_Some}
use Rattle.std.proofs.lemmas.Bool.{cases_lt, false≢true}
use Rattle.toml.specs.Data.{Data, string, integer, float, boolean, datetime, array, table, Items, no_items, item, push_item, Members, as_table, as_array}
use Rattle.toml.specs.Text.{are_tables}
use Rattle.toml.specs.View.{view, items_view}
use Rattle.toml.specs.declared.value.Value.{Value}
use Rattle.ospf_config.specs.declared.fault.ConfigFault.{ConfigFault}
use Rattle.ospf_config.specs.declared.fault.ConfigFault.TheVariants as fault
use Rattle.toml.proofs.Views.{items_view-push}
use Rattle.ospf_config.specs.Reading.{ReadsValue, Required}
use Rattle.ospf_config.specs.Tables.{IsTableWith, active_among, tables_among, as_tables, AreInterfaceTables}
use Rattle.ospf_config.proofs.PeerLists.{none_is_some, no, yes, known}

-- ---- one value

pub with_table : (P : Members → Type 0) (d : Data) (t : Members) → Some t ≡ as_table d → P t → IsTableWith P d
with_table P (table u) t e p = subst P (same_Some t u e) p
with_table P (string s) t e p = absurd (none_is_some t (sym e))
with_table P (integer z) t e p = absurd (none_is_some t (sym e))
with_table P (float x) t e p = absurd (none_is_some t (sym e))
with_table P (boolean b) t e p = absurd (none_is_some t (sym e))
with_table P (datetime dt) t e p = absurd (none_is_some t (sym e))
with_table P (array ds) t e p = absurd (none_is_some t (sym e))

pub table_with : (P : Members → Type 0) (d : Data) (t : Members) → Some t ≡ as_table d → IsTableWith P d → P t
table_with P (table u) t e p = subst P (sym (same_Some t u e)) p
table_with P (string s) t e p = absurd p
table_with P (integer z) t e p = absurd p
table_with P (float x) t e p = absurd p
table_with P (boolean b) t e p = absurd p
table_with P (datetime dt) t e p = absurd p
table_with P (array ds) t e p = absurd p

pub no_table : (P : Members → Type 0) (d : Data) → None ≡ as_table d → IsTableWith P d → ⊥
no_table P (table u) e p = none_is_some u e
no_table P (string s) e p = p
no_table P (integer z) e p = p
no_table P (float x) e p = p
no_table P (boolean b) e p = p
no_table P (datetime dt) e p = p
no_table P (array ds) e p = p

-- ---- any

module _ {A : Type 0} (P : A → Type 0) where
  pub any_here : (x : A) (xs : List A) → P x → Any P (x ∷ xs)
  any_here x xs p = (0, x, omega arith, refl, p)

  pub any_later : (x : A) (xs : List A) → Any P xs → Any P (x ∷ xs)
  any_later x xs (k, y, lt, at, p) = (suc k, y, omega arith, at, p)

  pub any_cons : (x : A) (xs : List A) → Any P (x ∷ xs) → P x ⊎ Any P xs
  any_cons x xs (zero, y, lt, at, p) = inl (subst P (sym at) p)
  any_cons x xs (suc k, y, lt, at, p) = inr (k, y, omega arith, at, p)

  pub any_none : Any P [] → ⊥
  any_none (k, y, lt, at, p) = omega arith

  pub any_append_left : (xs ys : List A) → Any P xs → Any P (xs ++ ys)
  any_append_left [] ys h = absurd (any_none h)
  any_append_left (x ∷ xs) ys h = elim (any_cons x xs h) [ inl p ↦ any_here x (xs ++ ys) p | inr r ↦ any_later x (xs ++ ys) (any_append_left xs ys r) ]

  pub any_last : (xs : List A) (y : A) → P y → Any P (xs ++ y ∷ [])
  any_last [] y p = any_here y [] p
  any_last (x ∷ xs) y p = any_later x (xs ++ y ∷ []) (any_last xs y p)

  pub any_snoc : (xs : List A) (y : A) → Any P (xs ++ y ∷ []) → Any P xs ⊎ P y
  any_snoc [] y h = elim (any_cons y [] h) [ inl p ↦ inr p | inr r ↦ absurd (any_none r) ]
  any_snoc (x ∷ xs) y h =
      elim (any_cons x (xs ++ y ∷ []) h) [
        | inl p ↦ inl (any_here x xs p)
        | inr r ↦ elim (any_snoc xs y r) [ inl q ↦ inl (any_later x xs q) | inr q ↦ inr q ]
      ]

  -- what `any` answers
  pub any_by : (r : Bool) (xs : List A) → MatchBool r ((k : ℕ) × (k < length xs) × HoldsAt P xs k) (AllWithin (λ x. P x → ⊥) xs 0 (length xs)) → IsTrue r ↔ Any P xs
  any_by true [] found = absurd (omega (arith, found.1))
  any_by true (x ∷ xs) found = ((λ _. (found.0, get_or (x ∷ xs) found.0 x, found.1, get_or_default (x ∷ xs) found.0 _ x found.1, found.2 x)), λ _. refl)
  any_by false xs none = ((λ yes. absurd (false≢true yes)), λ some. absurd (none some.0 some.1 (omega arith) some.2 (subst P (sym some.3) some.4)))

  -- one more in front of an index
  pub any_more : (xs : List A) (i : ℕ) (x : A) → i < length xs → x ≡ get_or xs i x → Any P (take i xs) ⊎ P x → Any P (take (i + 1) xs)
  any_more xs i x lt here h =
      rw (take_more xs i x lt, ← here) (elim h [ inl some ↦ any_append_left (take i xs) (x ∷ []) some | inr p ↦ any_last (take i xs) x p ])

  pub any_less : (xs : List A) (i : ℕ) (x : A) → i < length xs → x ≡ get_or xs i x → Any P (take (i + 1) xs) → Any P (take i xs) ⊎ P x
  any_less xs i x lt here h =
      let split : Any P (take i xs ++ x ∷ []) = rw (take_more xs i x lt, ← here) at h in
      any_snoc (take i xs) x split

-- ---- the tables among values

tables_step : (P : Members → Type 0) (d : Data) (ds : Items) → Any P (tables_among (item d ds)) → IsTableWith P d ⊎ Any P (tables_among ds)
tables_step P (table t) ds h = any_cons P t (tables_among ds) h
tables_step P (string s) ds h = inr h
tables_step P (integer z) ds h = inr h
tables_step P (float x) ds h = inr h
tables_step P (boolean b) ds h = inr h
tables_step P (datetime dt) ds h = inr h
tables_step P (array xs) ds h = inr h

tables_here : (P : Members → Type 0) (d : Data) (ds : Items) → IsTableWith P d → Any P (tables_among (item d ds))
tables_here P (table t) ds h = any_here P t (tables_among ds) h
tables_here P (string s) ds h = absurd h
tables_here P (integer z) ds h = absurd h
tables_here P (float x) ds h = absurd h
tables_here P (boolean b) ds h = absurd h
tables_here P (datetime dt) ds h = absurd h
tables_here P (array xs) ds h = absurd h

tables_later : (P : Members → Type 0) (d : Data) (ds : Items) → Any P (tables_among ds) → Any P (tables_among (item d ds))
tables_later P (table t) ds h = any_later P t (tables_among ds) h
tables_later P (string s) ds h = h
tables_later P (integer z) ds h = h
tables_later P (float x) ds h = h
tables_later P (boolean b) ds h = h
tables_later P (datetime dt) ds h = h
tables_later P (array xs) ds h = h

pub any_value : (P : Members → Type 0) (vs : List Value) → Any P (tables_among (items_view vs)) → Any (λ v. IsTableWith P (view v)) vs
any_value P [] h = absurd (any_none P h)
any_value P (v ∷ vs) h =
    let Q : Value → Type 0 = λ x. IsTableWith P (view x) in
    elim (tables_step P (view v) (items_view vs) h) [ inl p ↦ any_here Q v vs p | inr r ↦ any_later Q v vs (any_value P vs r) ]

pub any_table : (P : Members → Type 0) (vs : List Value) → Any (λ v. IsTableWith P (view v)) vs → Any P (tables_among (items_view vs))
any_table P [] h = absurd (any_none (λ v. IsTableWith P (view v)) h)
any_table P (v ∷ vs) h =
    elim (any_cons (λ x. IsTableWith P (view x)) v vs h) [
      | inl p ↦ tables_here P (view v) (items_view vs) p
      | inr r ↦ tables_later P (view v) (items_view vs) (any_table P vs r)
    ]

-- ---- lists of tables

are_tables_item : (d : Data) (ds : Items) → (is_some (as_table d) && are_tables ds) ≡ are_tables (item d ds)
are_tables_item (table t) ds = refl
are_tables_item (string s) ds = refl
are_tables_item (integer z) ds = refl
are_tables_item (float x) ds = refl
are_tables_item (boolean b) ds = refl
are_tables_item (datetime dt) ds = refl
are_tables_item (array xs) ds = refl

pub all_tables : (vs : List Value) → list_all (λ v. is_some (as_table (view v))) vs ≡ are_tables (items_view vs)
all_tables [] = refl
all_tables (v ∷ vs) = ap (λ b. is_some (as_table (view v)) && b) (all_tables vs) ∙ are_tables_item (view v) (items_view vs)

pub as_tables-array : (d : Data) (ds : Items) → Some ds ≡ as_array d → as_tables d ≡ (if are_tables ds then Some (tables_among ds) else None)
as_tables-array (array xs) ds e = rw (same_Some ds xs e) refl
as_tables-array (integer y) ds e = absurd (none_is_some ds (sym e))
as_tables-array (string s) ds e = absurd (none_is_some ds (sym e))
as_tables-array (float x) ds e = absurd (none_is_some ds (sym e))
as_tables-array (boolean b) ds e = absurd (none_is_some ds (sym e))
as_tables-array (datetime dt) ds e = absurd (none_is_some ds (sym e))
as_tables-array (table ms) ds e = absurd (none_is_some ds (sym e))

length_item : (d : Data) (ds : Items) → are_tables (item d ds) ≡ true → (length (tables_among (item d ds)) ≡ suc (length (tables_among ds))) × (are_tables ds ≡ true)
length_item (table t) ds h = (refl, h)
length_item (string s) ds h = absurd (false≢true h)
length_item (integer z) ds h = absurd (false≢true h)
length_item (float x) ds h = absurd (false≢true h)
length_item (boolean b) ds h = absurd (false≢true h)
length_item (datetime dt) ds h = absurd (false≢true h)
length_item (array xs) ds h = absurd (false≢true h)

-- as many tables as values, if each is one
pub length_tables : (vs : List Value) → are_tables (items_view vs) ≡ true → length (tables_among (items_view vs)) ≡ length vs
length_tables [] h = refl
length_tables (v ∷ vs) h =
    let (one, more) = length_item (view v) (items_view vs) h in
    one ∙ ap suc (length_tables vs more)

module _ (o : Option Data) (d : Data) (ds : Items) (at : Some d ≡ o) (list : Some ds ≡ as_array d) where
  pub list_no_tables : are_tables ds ≡ false → Required as_tables AreInterfaceTables o (Err fault.Type)
  list_no_tables h = rw (← at) (rw (as_tables-array d ds list, h) refl)

  pub list_out : are_tables ds ≡ true → (1 ≤ length (active_among (tables_among ds)) → length (tables_among ds) ≤ 32 → ⊥) → Required as_tables AreInterfaceTables o (Err fault.Range)
  list_out h out = rw (← at) (rw (as_tables-array d ds list, h) (refl, λ us means. out (rw means.0 means.1) (rw means.0 means.2)))

  pub list_in : are_tables ds ≡ true → 1 ≤ length (active_among (tables_among ds)) → length (tables_among ds) ≤ 32 → (f : ConfigFault) → Required as_tables AreInterfaceTables o (Err f) → ⊥
  list_in h low high f reads =
      let here : ReadsValue AreInterfaceTables (as_tables d) (Err f) = rw (← at) at reads in
      let there = rw (as_tables-array d ds list, h) at here in
      there.1 (tables_among ds) (refl, low, high)

  pub list_tables : are_tables ds ≡ true → tables_among ds ≡ unwrap_or (option_and_then as_tables o) []
  list_tables h = rw (← at) (rw (as_tables-array d ds list, h) refl)

  pub list_none : are_tables ds ≡ false → [] ≡ unwrap_or (option_and_then as_tables o) []
  list_none h = rw (← at) (rw (as_tables-array d ds list, h) refl)

-- where the key has no fault, it has at most 32 tables, and one at least of an interface that is not passive
pub in_number : (o : Option Data) → ((f : ConfigFault) → Required as_tables AreInterfaceTables o (Err f) → ⊥)
    → (1 ≤ length (active_among (unwrap_or (option_and_then as_tables o) []))) × (length (unwrap_or (option_and_then as_tables o) []) ≤ 32)
in_number None free = absurd (free fault.Missing refl)
in_number (Some d) free =
    elim (known (as_tables d)) [
      | no none ↦ absurd (free fault.Type (rw none refl))
      | yes ts is ↦ rw is
          (elim (cases_lt 0 (length (active_among ts))) [
            | inr none ↦ absurd (free fault.Range (rw is (refl, λ us means. (let low : 1 ≤ length (active_among ts) = rw means.0 means.1 in omega arith))))
            | inl some ↦ elim (cases_lt 32 (length ts)) [
              | inl many ↦ absurd (free fault.Range (rw is (refl, λ us means. (let high : length ts ≤ 32 = rw means.0 means.2 in omega arith))))
              | inr few ↦ (omega arith, few)
            ]
          ])
    ]

-- ---- values that are all tables

pub tables_push : (ds : Items) (d : Data) (t : Members) → as_table d ≡ Some t → tables_among (push_item ds d) ≡ tables_among ds ++ t ∷ []
tables_push no_items (table u) t e = ap (λ x. x ∷ []) (same_Some u t e)
tables_push no_items (string s) t e = absurd (none_is_some t e)
tables_push no_items (integer z) t e = absurd (none_is_some t e)
tables_push no_items (float x) t e = absurd (none_is_some t e)
tables_push no_items (boolean b) t e = absurd (none_is_some t e)
tables_push no_items (datetime dt) t e = absurd (none_is_some t e)
tables_push no_items (array xs) t e = absurd (none_is_some t e)
tables_push (item (table u) ds) d t e = ap (λ ts. u ∷ ts) (tables_push ds d t e)
tables_push (item (string s) ds) d t e = tables_push ds d t e
tables_push (item (integer z) ds) d t e = tables_push ds d t e
tables_push (item (float x) ds) d t e = tables_push ds d t e
tables_push (item (boolean b) ds) d t e = tables_push ds d t e
tables_push (item (datetime dt) ds) d t e = tables_push ds d t e
tables_push (item (array xs) ds) d t e = tables_push ds d t e

pub pair_last : {A B : Type 0} (R : A → B → Type 0) (xs : List A) (ys : List B) (x : A) (y : B) → AllZip R xs ys → R x y → AllZip R (xs ++ x ∷ []) (ys ++ y ∷ [])
pair_last R [] [] x y h r = (r, tt)
pair_last R [] (b ∷ ys) x y h r = absurd h
pair_last R (a ∷ xs) [] x y h r = absurd h
pair_last R (a ∷ xs) (b ∷ ys) x y h r = (h.0, pair_last R xs ys x y h.1 r)

-- one more pair
pub pairs_more : {B : Type 0} (R : Members → B → Type 0) (vs : List Value) (i : ℕ) (v : Value) (t : Members) (ys : List B) (y : B)
    → i < length vs → v ≡ get_or vs i v → as_table (view v) ≡ Some t → AllZip R (tables_among (items_view (take i vs))) ys → R t y
    → AllZip R (tables_among (items_view (take (i + 1) vs))) (ys ++ y ∷ [])
pairs_more R vs i v t ys y lt here is so_far r =
    rw (take_more vs i v lt, ← here, items_view-push (take i vs) v, tables_push (items_view (take i vs)) (view v) t is) (pair_last R _ ys t y so_far r)

-- a table that is met
pub any_table_at : (P : Members → Type 0) (vs : List Value) (i : ℕ) (v : Value) (t : Members) → i < length vs → v ≡ get_or vs i v → as_table (view v) ≡ Some t → P t
    → Any P (tables_among (items_view vs))
any_table_at P vs i v t lt here is p = any_table P vs (i, v, lt, sym here, with_table P (view v) t (sym is) p)
