-- An LSA that is put into a listing, in order.
use Rattle.std.proofs.Common.{◌≡◌, ◌⊎◌, inl, inr, zero, suc, ℕ, ◌+◌, ◌-◌, ◌^◌, ◌<◌, ◌≤◌, List, [], ◌∷◌, ◌++◌, length, get_or, take, drop, refl, sym, ap, subst, ◌∙◌, arith, length-drop}
use Rattle.std.specs.List.{AllByRecursion}
use Rattle.std.proofs.lemmas.List.{drop_more, take_more, take-append-drop, get_or-drop, get_or_default}
use Rattle.std.proofs.lemmas.List.Elements.{All-from_recursion, recursion_from_All}
use Rattle.ospf_base.specs.declared.ids.LsaKey.{LsaKey}
use Rattle.std.specs.List.{Contains}
use Rattle.ospf_base.specs.Bytes.{number_at}
use Rattle.ospf_base.specs.declared.ids.Kind.{Kind}
use Rattle.ospf_base.specs.declared.ids.Kind.TheVariants.{Router, Network}
use Rattle.ospf_lsa.specs.declared.fault.LsaFault.TheVariants as fault
use Rattle.ospf_base.specs.Keys.{Precedes, ls_type}
use Rattle.ospf_base.proofs.KeyOrder.{Precedes-trans, Precedes-irrefl, Precedes-cases}
use Rattle.ospf_lsa.specs.Lsa.{IsLsa, key_of, kind_of, type_of}
use Rattle.ospf_lsa.specs.Listing.{IsListable, IsListing, HasKey, IsPlace, IsInserted, IsCount, IsNetworkOf, IsOfNetwork}
use Rattle.ospf_lsa.proofs.Words.{IsRising}

abbrev pub AllBefore : LsaKey → List (List ℕ) → Type 0
AllBefore key lsas = AllByRecursion (λ l. Precedes (key_of l) key) lsas

abbrev pub AllAfter : LsaKey → List (List ℕ) → Type 0
AllAfter key lsas = AllByRecursion (λ l. Precedes key (key_of l)) lsas

pub all_join : {X : Type 0} (P : X → Type 0) (xs ys : List X) → AllByRecursion P xs → AllByRecursion P ys → AllByRecursion P (xs ++ ys)
all_join P [] ys p q = q
all_join P (x ∷ xs) ys p q = (p.0, all_join P xs ys p.1 q)

pub all_front : {X : Type 0} (P : X → Type 0) (xs ys : List X) → AllByRecursion P (xs ++ ys) → AllByRecursion P xs
all_front P [] ys p = tt
all_front P (x ∷ xs) ys p = (p.0, all_front P xs ys p.1)

pub all_back : {X : Type 0} (P : X → Type 0) (xs ys : List X) → AllByRecursion P (xs ++ ys) → AllByRecursion P ys
all_back P [] ys p = p
all_back P (x ∷ xs) ys p = all_back P xs ys p.1

-- what stands before an LSA of a rising list precedes it
pub before_it : (xs : List (List ℕ)) (y : List ℕ) (ys : List (List ℕ)) → IsRising (xs ++ y ∷ ys) → AllBefore (key_of y) xs
before_it [] y ys rises = tt
before_it (x ∷ xs) y ys rises = ((all_back (λ l. Precedes (key_of x) (key_of l)) xs (y ∷ ys) rises.0).0, before_it xs y ys rises.1)

-- what precedes a key precedes each greater one
pub all_before-trans : (k m : LsaKey) (xs : List (List ℕ)) → Precedes k m → AllBefore k xs → AllBefore m xs
all_before-trans k m [] lt p = tt
all_before-trans k m (x ∷ xs) lt p = (Precedes-trans (key_of x) k m p.0 lt, all_before-trans k m xs lt p.1)

-- a rising list with an LSA put in where its key belongs
pub IsRising-insert : (xs : List (List ℕ)) (l : List ℕ) (ys : List (List ℕ)) → IsRising (xs ++ ys) → AllBefore (key_of l) xs → AllAfter (key_of l) ys → IsRising (xs ++ l ∷ ys)
IsRising-insert [] l ys rises below above = (above, rises)
IsRising-insert (x ∷ xs) l ys rises below above = (
  all_join (λ o. Precedes (key_of x) (key_of o)) xs (l ∷ ys) (all_front (λ o. Precedes (key_of x) (key_of o)) xs ys rises.0) (below.0, all_back (λ o. Precedes (key_of x) (key_of o)) xs ys rises.0),
  IsRising-insert xs l ys rises.1 below.1 above,
)

pub IsListing-insert : (xs : List (List ℕ)) (l : List ℕ) (ys : List (List ℕ)) → IsListing (xs ++ ys) → IsListable l → AllBefore (key_of l) xs → AllAfter (key_of l) ys → IsListing (xs ++ l ∷ ys)
IsListing-insert xs l ys is new below above = record {
  rising = IsRising-insert xs l ys is.rising below above;
  listed = all_join IsListable xs (l ∷ ys) (all_front IsListable xs ys is.listed) (new, all_back IsListable xs ys is.listed);
}

append_nil : (xs : List (List ℕ)) → xs ++ [] ≡ xs
append_nil [] = refl
append_nil (x ∷ xs) = ap (λ (t : List (List ℕ)). x ∷ t) (append_nil xs)

-- a listing with an LSA put behind all others
pub IsListing-last : (lsas : List (List ℕ)) (l : List ℕ) → IsListing lsas → IsListable l → AllBefore (key_of l) lsas → IsListing (lsas ++ l ∷ [])
IsListing-last lsas l is new below = IsListing-insert lsas l [] (subst (λ (ls : List (List ℕ)). IsListing ls) (sym (append_nil lsas)) is) new below tt

-- no key of a list is one that all precede, or that precedes all
none_here : (key : LsaKey) (xs : List (List ℕ)) → AllByRecursion (λ l. key_of l ≡ key → ⊥) xs → HasKey xs key → ⊥
none_here key xs p has = All-from_recursion (λ l. key_of l ≡ key → ⊥) xs p has.0 has.1 has.2 (ap key_of has.3 ∙ has.4)

apart_before : (key : LsaKey) (xs : List (List ℕ)) → AllBefore key xs → AllByRecursion (λ l. key_of l ≡ key → ⊥) xs
apart_before key [] p = tt
apart_before key (x ∷ xs) p = ((λ e. Precedes-irrefl key (subst (λ k. Precedes k key) e p.0)), apart_before key xs p.1)

apart_after : (key : LsaKey) (xs : List (List ℕ)) → AllAfter key xs → AllByRecursion (λ l. key_of l ≡ key → ⊥) xs
apart_after key [] p = tt
apart_after key (x ∷ xs) p = ((λ e. Precedes-irrefl key (subst (λ k. Precedes key k) e p.0)), apart_after key xs p.1)

pub no_key : (key : LsaKey) (xs ys : List (List ℕ)) → AllBefore key xs → AllAfter key ys → HasKey (xs ++ ys) key → ⊥
no_key key xs ys below above = none_here key (xs ++ ys) (all_join (λ l. key_of l ≡ key → ⊥) xs ys (apart_before key xs below) (apart_after key ys above))

-- the place behind an LSA whose key precedes the new one
pub IsPlace-behind : (lsas : List (List ℕ)) (key : LsaKey) (at : ℕ) (last : List ℕ) → 0 < at → at ≤ length lsas → last ≡ get_or lsas (at - 1) last
    → IsRising lsas → Precedes (key_of last) key → AllAfter key (drop at lsas) → IsPlace lsas key at
IsPlace-behind lsas key at last pos within is rises lt above =
    let front = take (at - 1) lsas in
    let one : at - 1 + 1 ≡ at = omega arith in
    let split : drop (at - 1) lsas ≡ last ∷ drop at lsas = drop_more lsas (at - 1) last (omega arith) ∙ ap (λ (l : List ℕ). l ∷ drop (at - 1 + 1) lsas) (sym is) ∙ ap (λ (n : ℕ). last ∷ drop n lsas) one in
    let whole : front ++ last ∷ drop at lsas ≡ lsas = ap (λ (t : List (List ℕ)). front ++ t) (sym split) ∙ take-append-drop (at - 1) lsas in
    let fronts : take at lsas ≡ front ++ last ∷ [] = ap (λ (n : ℕ). take n lsas) (sym one) ∙ take_more lsas (at - 1) last (omega arith) ∙ ap (λ (l : List ℕ). front ++ l ∷ []) (sym is) in
    let below : AllBefore (key_of last) front = before_it front last (drop at lsas) (subst (λ (l : List (List ℕ)). IsRising l) (sym whole) rises) in
    record {
      within = within;
      before = rw fronts (all_join (λ l. Precedes (key_of l) key) front (last ∷ []) (all_before-trans (key_of last) key front lt below) (lt, tt));
      after = above;
    }

-- a listing with an LSA put in at its place
pub IsListing-place : (lsas : List (List ℕ)) (l : List ℕ) (at : ℕ) → IsListing lsas → IsListable l → IsPlace lsas (key_of l) at → IsListing (take at lsas ++ l ∷ drop at lsas)
IsListing-place lsas l at is new p =
    IsListing-insert (take at lsas) l (drop at lsas) (subst (λ (ls : List (List ℕ)). IsListing ls) (sym (take-append-drop at lsas)) is) new p.before p.after

pub no_key_at : (lsas : List (List ℕ)) (key : LsaKey) (at : ℕ) → IsPlace lsas key at → HasKey lsas key → ⊥
no_key_at lsas key at p has = no_key key (take at lsas) (drop at lsas) p.before p.after (subst (λ (ls : List (List ℕ)). HasKey ls key) (sym (take-append-drop at lsas)) has)

-- ---- by index

rising_from : (x : List ℕ) (lsas : List (List ℕ)) (j : ℕ) (d : List ℕ) → AllByRecursion (λ other. Precedes (key_of x) (key_of other)) lsas
    → j < length lsas → Precedes (key_of x) (key_of (get_or lsas j d))
rising_from x lsas j d all within = All-from_recursion (λ other. Precedes (key_of x) (key_of other)) lsas all j d within

-- the keys of a rising list rise
pub rising_at : (lsas : List (List ℕ)) → IsRising lsas → (i j : ℕ) (d : List ℕ) → i < j → j < length lsas
    → Precedes (key_of (get_or lsas i d)) (key_of (get_or lsas j d))
rising_at [] rises i j d lt within = absurd (omega arith)
rising_at (x ∷ xs) rises zero zero d lt within = absurd (omega arith)
rising_at (x ∷ xs) rises zero (suc j) d lt within = rising_from x xs j d rises.0 (omega arith)
rising_at (x ∷ xs) rises (suc i) zero d lt within = absurd (omega arith)
rising_at (x ∷ xs) rises (suc i) (suc j) d lt within = rising_at xs rises.1 i j d (omega arith) (omega arith)

order_at : (i j : ℕ) → (i ≡ j) ⊎ ((i < j) ⊎ (j < i))
order_at i j = grind arith

-- of a key one LSA is listed
pub one_key : (lsas : List (List ℕ)) → IsRising lsas → (a b : List ℕ) → Contains lsas a → Contains lsas b → key_of a ≡ key_of b → a ≡ b
one_key lsas rises a b ma mb same = elim (order_at ma.0 mb.0) [
  | inl at ↦ sym ma.2 ∙ ap (λ k. get_or lsas k a) at ∙ get_or_default lsas mb.0 a b mb.1 ∙ mb.2
  | inr far ↦ elim far [
    | inl less ↦ absurd (apart ma.0 mb.0 a b ma.2 mb.1 mb.2 same less)
    | inr more ↦ absurd (apart mb.0 ma.0 b a mb.2 ma.1 ma.2 (sym same) more)
  ]
]
  where
    apart : (i j : ℕ) (x y : List ℕ) → get_or lsas i x ≡ x → j < length lsas → get_or lsas j y ≡ y → key_of x ≡ key_of y → i < j → ⊥
    apart i j x y at_i within at_j keys lt =
        let rise : Precedes (key_of (get_or lsas i x)) (key_of (get_or lsas j x)) = rising_at lsas rises i j x lt within in
        let there : get_or lsas j x ≡ y = get_or_default lsas j x y within ∙ at_j in
        let one : Precedes (key_of x) (key_of y) = subst (λ l. Precedes (key_of x) (key_of l)) there (subst (λ l. Precedes (key_of l) (key_of (get_or lsas j x))) at_i rise) in
        Precedes-irrefl (key_of x) (subst (λ k. Precedes (key_of x) k) (sym keys) one)

-- from a place on whose key stands after a key, all do
pub after_from : (lsas : List (List ℕ)) (key : LsaKey) → IsRising lsas → (m : ℕ) (x : List ℕ) → m < length lsas → x ≡ get_or lsas m x
    → Precedes key (key_of x) → (k : ℕ) (d : List ℕ) → m ≤ k → k < length lsas → Precedes key (key_of (get_or lsas k d))
after_from lsas key rises m x within is lt k d low high =
    let here : Precedes key (key_of (get_or lsas m d)) = subst (λ l. Precedes key (key_of l)) (is ∙ get_or_default lsas m x d within) lt in
    elim (order_at m k) [
      | inl same ↦ subst (λ n. Precedes key (key_of (get_or lsas n d))) same here
      | inr far ↦ elim far [
        | inl less ↦ Precedes-trans key (key_of (get_or lsas m d)) (key_of (get_or lsas k d)) here (rising_at lsas rises m k d less high)
        | inr more ↦ absurd (omega arith)
      ]
    ]

-- up to a place whose key does not stand after a key, none does
pub before_to : (lsas : List (List ℕ)) (key : LsaKey) → IsRising lsas → (m : ℕ) (x : List ℕ) → m < length lsas → x ≡ get_or lsas m x
    → (Precedes key (key_of x) → ⊥) → (k : ℕ) (d : List ℕ) → k < m + 1 → Precedes key (key_of (get_or lsas k d)) → ⊥
before_to lsas key rises m x within is not k d low lt =
    let wk : k < length lsas = omega arith in
    not (subst (λ l. Precedes key (key_of l)) (sym is) (after_from lsas key rises k (get_or lsas k d) wk (get_or_default lsas k d _ wk) lt m x (omega arith) within))

-- what stands from a place on comes after a key
pub all_after : (lsas : List (List ℕ)) (key : LsaKey) (n : ℕ) → ((k : ℕ) (d : List ℕ) → n ≤ k → k < length lsas → Precedes key (key_of (get_or lsas k d)))
    → AllAfter key (drop n lsas)
all_after lsas key n after =
    recursion_from_All (λ l. Precedes key (key_of l)) (drop n lsas)
    (λ k d within. rw (get_or-drop n lsas k d) (after (n + k) d (omega arith) (omega (arith, length-drop n lsas))))

-- a count is a key's place where what stands in front of it precedes the key
pub IsPlace-count : (lsas : List (List ℕ)) (key : LsaKey) (n : ℕ) → IsRising lsas → IsCount lsas key n
    → (0 < n → (d : List ℕ) → Precedes (key_of (get_or lsas (n - 1) d)) key) → IsPlace lsas key n
IsPlace-count lsas key zero rises count front = record { within = count.within; before = tt; after = all_after lsas key zero count.after }
IsPlace-count lsas key (suc n) rises count front =
    let last = get_or lsas n [] in
    let sub_one : suc n - 1 ≡ n = omega arith in
    let low = count.within in
    let lt : Precedes (key_of last) key = rw sub_one at (front (omega arith) []) in
    IsPlace-behind lsas key (suc n) last (omega arith) count.within (rw sub_one (get_or_default lsas n [] last (omega arith))) rises lt (all_after lsas key (suc n) count.after)

-- what neither precedes a key nor stands behind it has that key
pub same_key : (a b : LsaKey) → (Precedes a b → ⊥) → (Precedes b a → ⊥) → a ≡ b
same_key a b not_before not_after = elim (Precedes-cases a b) [
  | inl same ↦ same
  | inr far ↦ elim far [ inl less ↦ absurd (not_before less) | inr more ↦ absurd (not_after more) ]
]

-- ---- the networks of a Link State ID

-- the kind of an LSA is its LS type
type_is : (lsa : List ℕ) → IsLsa lsa → ls_type (kind_of lsa) ≡ type_of lsa
type_is lsa is = elim (is fault.Kind) [ inl r ↦ rw r refl | inr n ↦ rw n refl ]

abbrev Before : ℕ → ℕ → ℕ → ℕ → ℕ → ℕ → Type 0
Before t i r u j s = (t < u) ⊎ ((t ≡ u) × ((i < j) ⊎ ((i ≡ j) × (r < s))))

kind_low : (k : Kind) → ls_type k ≤ 2
kind_low Router = omega arith
kind_low Network = omega arith

-- what stands behind a network of an ID, and not behind the last key that it may have, is of that ID too
same_group : (t id r u j s : ℕ) → t ≡ 2 → u ≤ 2 → Before t id r u j s → (Before 2 id 4294967295 u j s → ⊥) → (u ≡ 2) × (j ≡ id) × (r < s)
same_group t id r u j s network low (inl p) not = absurd (omega arith)
same_group t id r u j s network low (inr (p, inl q)) not = absurd (not (inr (omega arith, inl q)))
same_group t id r u j s network low (inr (p, inr q)) not = (omega arith, sym q.0, q.1)

-- no key of the ID stands behind the last that it may have
within_group : (t id r : ℕ) → t ≡ 2 → r < 2 ^ 32 → Before 2 id 4294967295 t id r → ⊥
within_group t id r network fits (inl p) = omega arith
within_group t id r network fits (inr (p, inl q)) = omega arith
within_group t id r network fits (inr (p, inr q)) = let lt = q.1 in omega arith

module _ (lsas : List (List ℕ)) (is : IsListing lsas) (id n : ℕ)
    (count : IsCount lsas (record { kind = Network; id = id; router = record { 0 = 4294967295 } }) n) where
  abbrev listed_at : (k : ℕ) (d : List ℕ) → k < length lsas → IsListable (get_or lsas k d)
  listed_at k d within = All-from_recursion IsListable lsas is.listed k d within

  -- a network-LSA of the ID stands in front of place n
  early : (other : List ℕ) (m : Contains lsas other) → IsOfNetwork id other → m.0 < n
  early other m of = elim (order_at m.0 n) [
    | inl same ↦ absurd (late (omega arith))
    | inr far ↦ elim far [ inl less ↦ less | inr more ↦ absurd (late (omega arith)) ]
  ]
    where
      late : n ≤ m.0 → ⊥
      late low =
          let there : get_or lsas m.0 other ≡ other = m.2 in
          let valid : IsListable other = subst (λ l. IsListable l) there (listed_at m.0 other m.1) in
          let behind = subst (λ l. Precedes (record { kind = Network; id = id; router = record { 0 = 4294967295 } }) (key_of l)) there (count.after m.0 other low m.1) in
          let fits : number_at 8 4 other < 2 ^ 32 = valid.1.router in
          let kind : ls_type (kind_of other) ≡ 2 = type_is other valid.0 ∙ of.0 in
          within_group (ls_type (kind_of other)) id (number_at 8 4 other) kind fits (rw of.1 at behind)

  pub no_network : n ≡ 0 → (other : List ℕ) → Contains lsas other → IsOfNetwork id other → ⊥
  no_network none other m of = let low : m.0 < n = early other m of in omega arith

  module _ (last : List ℕ) (pos : 0 < n) (last_is : last ≡ get_or lsas (n - 1) last) where
    last_in : Contains lsas last
    last_in = (n - 1, (let low = count.within in omega arith), sym last_is)

    last_valid : IsListable last
    last_valid = subst (λ l. IsListable l) (sym last_is) (listed_at (n - 1) last (let low = count.within in omega arith))

    -- another of the ID stands in front of the last
    group : (other : List ℕ) (m : Contains lsas other) → IsOfNetwork id other → m.0 < n - 1
        → (ls_type (kind_of last) ≡ 2) × (number_at 4 4 last ≡ id) × (number_at 8 4 other < number_at 8 4 last)
    group other m of front =
        let there : get_or lsas m.0 other ≡ other = m.2 in
        let valid : IsListable other = subst (λ l. IsListable l) there (listed_at m.0 other m.1) in
        let kind : ls_type (kind_of other) ≡ 2 = type_is other valid.0 ∙ of.0 in
        let low = count.within in
        let rise : Precedes (key_of (get_or lsas m.0 other)) (key_of (get_or lsas (n - 1) other)) = rising_at lsas is.rising m.0 (n - 1) other front (omega arith) in
        let last_there : get_or lsas (n - 1) other ≡ last = get_or_default lsas (n - 1) other last (omega arith) ∙ sym last_is in
        let rises : Precedes (key_of other) (key_of last) =
        subst (λ l. Precedes (key_of other) (key_of l)) last_there (subst (λ l. Precedes (key_of l) (key_of (get_or lsas (n - 1) other))) there rise) in
        let not = subst (λ l. Precedes (record { kind = Network; id = id; router = record { 0 = 4294967295 } }) (key_of l) → ⊥) last_there (count.before (n - 1) other (omega arith)) in
        let two : ls_type (kind_of last) ≤ 2 = kind_low (kind_of last) in
        let found = same_group (ls_type (kind_of other)) (number_at 4 4 other) (number_at 8 4 other) (ls_type (kind_of last)) (number_at 4 4 last) (number_at 8 4 last) kind two rises (rw (← of.1) at not) in
        (found.0, found.1 ∙ of.1, found.2)

    pub is_network : IsOfNetwork id last → IsNetworkOf lsas id last
    is_network of = record {
      listed = last_in;
      of = of;
      largest = λ other m of_other. elim (order_at m.0 (n - 1)) [
        | inl same ↦ (let one : other ≡ last = sym m.2 ∙ ap (λ k. get_or lsas k other) same ∙ get_or_default lsas (n - 1) other last (let low = count.within in omega arith) ∙ sym last_is in rw one (omega arith))
        | inr far ↦ elim far [
          | inl less ↦ (let lt = (group other m of_other less).2 in omega arith)
          | inr more ↦ absurd (let low : m.0 < n = early other m of_other in omega arith)
        ]
      ];
    }

    pub not_network : (IsOfNetwork id last → ⊥) → (other : List ℕ) → Contains lsas other → IsOfNetwork id other → ⊥
    not_network not other m of = elim (order_at m.0 (n - 1)) [
      | inl same ↦ not (let one : other ≡ last = sym m.2 ∙ ap (λ k. get_or lsas k other) same ∙ get_or_default lsas (n - 1) other last (let low = count.within in omega arith) ∙ sym last_is in subst (λ l. IsOfNetwork id l) one of)
      | inr far ↦ elim far [
        | inl less ↦ not (let g = group other m of less in (sym (type_is last last_valid.0) ∙ g.0, g.1))
        | inr more ↦ absurd (let low : m.0 < n = early other m of in omega arith)
      ]
    ]

-- what is listed may be
pub listed_in : (lsas : List (List ℕ)) → IsListing lsas → (lsa : List ℕ) → Contains lsas lsa → IsListable lsa
listed_in lsas is lsa m = subst (λ l. IsListable l) m.2 (All-from_recursion IsListable lsas is.listed m.0 lsa m.1)
