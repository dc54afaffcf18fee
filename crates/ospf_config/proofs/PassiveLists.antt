-- The tables of passive interfaces among those of interfaces.
use Rattle.std.proofs.Common.{◌≡◌, ℕ, zero, suc, ◌+◌, ◌<◌, ◌≤◌, Bool, true, false, not, List, [], ◌∷◌, ◌++◌, length, take, get_or, Option, Some, None, inl, inr, refl, sym, ap, ◌∙◌, subst, arith}
use Rattle.std.specs.Prelude.{Any, filter, slice_get}
use Rattle.std.specs.List.{AllZip}
use Rattle.std.proofs.lemmas.Bool.{cases_Bool}
use Rattle.std.proofs.lemmas.List.{take_more, append-nil, length-append}
use Rattle.std.proofs.lemmas.List.Elements.{filter-append}
use Rattle.std.proofs.lemmas.List.Filters.{length-filter_both}
use Rattle.toml.specs.Data.{Members, as_table}
use Rattle.toml.specs.View.{view, items_view}
use Rattle.toml.specs.declared.value.Value.{Value}
use Rattle.toml.proofs.Views.{items_view-push}
use Rattle.ospf_base.specs.declared.stub_network.StubNetwork.{StubNetwork}
use Rattle.ospf_config.specs.Interfaces.{AreStubNetworksOf, IsHostOf, IsStubNetworkOf}
use Rattle.ospf_config.specs.Keys.{IsActive, is_passive}
use Rattle.ospf_config.specs.Tables.{HaveSamePrefix, active_among, passive_among, tables_among}
use Rattle.ospf_config.proofs.ConflictLists.{pairs_length}
use Rattle.ospf_config.proofs.PeerLists.{none_is_some}
use Rattle.ospf_config.proofs.TableLists.{any_here, any_later, any_cons, any_none, pair_last, tables_push}

-- ---- what a filter keeps of tables that are met one by one

module _ (p : Members → Bool) {B : Type 0} (R : Members → B → Type 0) (vs : List Value) (i : ℕ) (v : Value) (t : Members) (ys : List B)
    (lt : i < length vs) (here : v ≡ get_or vs i v) (is : as_table (view v) ≡ Some t) where
  one_more : filter p (tables_among (items_view (take (i + 1) vs))) ≡ filter p (tables_among (items_view (take i vs))) ++ filter p (t ∷ [])
  one_more =
      rw (take_more vs i v lt, ← here, items_view-push (take i vs) v, tables_push (items_view (take i vs)) (view v) t is)
      (filter-append p (tables_among (items_view (take i vs))) (t ∷ []))

  -- one that is kept
  pub pairs_kept : p t ≡ true → (y : B) → AllZip R (filter p (tables_among (items_view (take i vs)))) ys → R t y
      → AllZip R (filter p (tables_among (items_view (take (i + 1) vs)))) (ys ++ y ∷ [])
  pairs_kept keeps y so_far r =
      let only : filter p (t ∷ []) ≡ t ∷ [] = rw keeps refl in
      rw (one_more, only) (pair_last R _ ys t y so_far r)

  -- one that is left out
  pub pairs_left : p t ≡ false → AllZip R (filter p (tables_among (items_view (take i vs)))) ys
      → AllZip R (filter p (tables_among (items_view (take (i + 1) vs)))) ys
  pairs_left leaves so_far =
      let none : filter p (t ∷ []) ≡ [] = rw leaves refl in
      rw (one_more, none, append-nil) so_far

-- ---- interfaces that are not passive

pub some_active : (ts : List Members) → Any IsActive ts → 1 ≤ length (active_among ts)
some_active [] h = absurd (any_none IsActive h)
some_active (t ∷ ts) h =
    elim (cases_Bool (is_passive t)) [
      | inr active ↦ rw active (omega arith)
      | inl passive ↦ rw passive (elim (any_cons IsActive t ts h) [ inl here ↦ absurd (cc) | inr later ↦ some_active ts later ])
    ]

pub active_some : (ts : List Members) → 1 ≤ length (active_among ts) → Any IsActive ts
active_some [] h = absurd (omega arith)
active_some (t ∷ ts) h =
    elim (cases_Bool (is_passive t)) [
      | inr active ↦ any_here IsActive t ts active
      | inl passive ↦ any_later IsActive t ts (active_some ts (rw passive at h))
    ]

-- each interface is passive or not
pub both_lengths : (ts : List Members) → length (passive_among ts) + length (active_among ts) ≡ length ts
both_lengths ts = length-filter_both is_passive (λ t. not (is_passive t)) (λ t. refl) ts

-- as many stub networks as passive interfaces and hosts
pub stubs_length : (q : Bool) (passive hosts : List Members) (stubs : List StubNetwork) → AreStubNetworksOf q passive hosts stubs → length passive + length hosts ≡ length stubs
stubs_length q passive hosts stubs is =
    let one = pairs_length (IsStubNetworkOf q) passive is.networks is.of_passive in
    let two = pairs_length IsHostOf hosts is.behind is.of_hosts in
    let whole : length stubs ≡ length is.networks + length is.behind = ap length is.order ∙ length-append is.networks is.behind in
    omega (arith, one, two, whole)

-- ---- places

module _ (p : Members → Bool) where
  place_of : (ts : List Members) (k : ℕ) (a : Members) → slice_get (filter p ts) k ≡ Some a → (n : ℕ) × (slice_get ts n ≡ Some a)
  place_of [] k a is = absurd (none_is_some a is)
  place_of (t ∷ ts) zero a is =
      elim (cases_Bool (p t)) [
        | inl keeps ↦ (0, rw keeps at is)
        | inr leaves ↦ (let (n, found) = place_of ts zero a (rw leaves at is) in (suc n, found))
      ]
  place_of (t ∷ ts) (suc k) a is =
      elim (cases_Bool (p t)) [
        | inl keeps ↦ (let (n, found) = place_of ts k a (rw keeps at is) in (suc n, found))
        | inr leaves ↦ (let (n, found) = place_of ts (suc k) a (rw leaves at is) in (suc n, found))
      ]

  places_of : (ts : List Members) (i j : ℕ) (a b : Members) → i < j → slice_get (filter p ts) i ≡ Some a → slice_get (filter p ts) j ≡ Some b
      → (n : ℕ) × (m : ℕ) × (n < m) × (slice_get ts n ≡ Some a) × (slice_get ts m ≡ Some b)
  places_of [] i j a b lt first second = absurd (none_is_some a first)
  places_of (t ∷ ts) i zero a b lt first second = absurd (omega arith)
  places_of (t ∷ ts) zero (suc j) a b lt first second =
      elim (cases_Bool (p t)) [
        | inl keeps ↦ (let (m, found) = place_of ts j b (rw keeps at second) in (0, suc m, omega arith, rw keeps at first, found))
        | inr leaves ↦
            (let (n, m, less, here, there) = places_of ts zero (suc j) a b lt (rw leaves at first) (rw leaves at second) in
            (suc n, suc m, omega (arith, less), here, there))
      ]
  places_of (t ∷ ts) (suc i) (suc j) a b lt first second =
      elim (cases_Bool (p t)) [
        | inl keeps ↦
            (let (n, m, less, here, there) = places_of ts i j a b (omega arith) (rw keeps at first) (rw keeps at second) in
            (suc n, suc m, omega (arith, less), here, there))
        | inr leaves ↦
            (let (n, m, less, here, there) = places_of ts (suc i) (suc j) a b lt (rw leaves at first) (rw leaves at second) in
            (suc n, suc m, omega (arith, less), here, there))
      ]

  -- two that a filter keeps are two of all
  pub same_prefix_of_all : (q : Bool) (ts : List Members) → HaveSamePrefix q (filter p ts) → HaveSamePrefix q ts
  same_prefix_of_all q ts h =
      let (n, m, less, here, there) = places_of ts h.i h.j h.first h.second h.before h.at_first h.at_second in
      record {
        i = n;
        j = m;
        before = less;
        first = h.first;
        second = h.second;
        at_first = here;
        at_second = there;
        a = h.a;
        b = h.b;
        first_address = h.first_address;
        second_address = h.second_address;
        conflict = h.conflict;
      }
