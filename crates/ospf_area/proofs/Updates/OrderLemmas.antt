-- A list that a stable sort made is what the insertion sort makes.
use Rattle.ospf_area.proofs.Updates.Words.{put_all_in_order}
use Rattle.std.proofs.Common.{◌≡◌, ◌<◌, ◌≤◌, ◌⊎◌, ℕ, zero, suc, Bool, true, false, cond, not, ◌&&◌, ◌||◌, nat_lt, ◌==◌, if◌then◌else◌, List, [], ◌∷◌, ◌++◌, length, drop, get_or, filter, refl, sym, ap, ap₂, subst, ◌∙◌, arith, append_assoc, append-nil, inl, inr, nat_cmp, is_lt, Ordering, Less, Equal, Greater, true≢false, add-one}
use Rattle.std.specs.Cmp.{IsStrictWeakOrder, IsTotalOrder}
use Rattle.std.specs.List.{AllByRecursion}
use Rattle.std.specs.List.Sorted.{IsSortedBy, IsStableBy, ties}
use Rattle.std.specs.Ordering.{ordering_then}
use Rattle.std.proofs.lemmas.Bool.{and_parts, cases_Bool, not-true, true_from_ne_false}
use Rattle.std.proofs.lemmas.Cmp.{nat_cmp_total, on_total, then_total}
use Rattle.std.proofs.lemmas.List.Elements.{filter-append}
use Rattle.std.proofs.lemmas.List.Sorted.{ranks_by, sorted_far}
use Rattle.ospf_lsa.specs.declared.header.LsaHeader.{LsaHeader}
use Rattle.ospf_area.specs.Updates.Acks.{header_precedes, in_order, put_in_order}

-- ---- what a filter keeps of a first element

kept : {X : Type 0} (t : X → Bool) (x : X) (xs : List X) → t x ≡ true → filter t (x ∷ xs) ≡ x ∷ filter t xs
kept t x xs e = ap (λ (b : Bool). cond b (x ∷ filter t xs) (filter t xs)) e

left_out : {X : Type 0} (t : X → Bool) (x : X) (xs : List X) → t x ≡ false → filter t (x ∷ xs) ≡ filter t xs
left_out t x xs e = ap (λ (b : Bool). cond b (x ∷ filter t xs) (filter t xs)) e

-- the same is kept behind the same element
kept_behind : {X : Type 0} (t : X → Bool) (x y : X) (xs ys : List X) → x ≡ y → filter t (x ∷ xs) ≡ filter t (y ∷ ys) → filter t xs ≡ filter t ys
kept_behind {X} t x y xs ys first same = go (t y) (ap (λ (z : X). filter t (z ∷ xs)) (sym first) ∙ same)
  where
    go : (b : Bool) → cond b (y ∷ filter t xs) (filter t xs) ≡ cond b (y ∷ filter t ys) (filter t ys) → filter t xs ≡ filter t ys
    go true e = ap (drop 1) e
    go false e = e

cond_append : {X : Type 0} (b : Bool) (y : X) (l k : List X) → cond b (y ∷ (l ++ k)) (l ++ k) ≡ cond b (y ∷ l) l ++ k
cond_append true y l k = refl
cond_append false y l k = refl

-- ---- the insertion sort by a test

module _ {X : Type 0} (lt : X → X → Bool) where
  -- none of them is less than x
  abbrev NoneBelow : X → List X → Type 0
  NoneBelow x xs = AllByRecursion (λ y. lt y x ≡ false) xs

  abbrev Rises : List X → Type 0
  Rises [] = Unit {0}
  Rises (x ∷ xs) = NoneBelow x xs × Rises xs

  abbrev put : X → List X → List X
  put h [] = h ∷ []
  put h (x ∷ xs) = if lt h x then h ∷ x ∷ xs else x ∷ put h xs

  abbrev put_all : List X → List X → List X
  put_all [] sorted = sorted
  put_all (h ∷ hs) sorted = put_all hs (put h sorted)

  none_below : (x : X) (xs : List X) → ((k : ℕ) → k < length xs → lt (get_or xs k x) x ≡ false) → NoneBelow x xs
  none_below x [] h = tt
  none_below x (y ∷ ys) h = (h 0 (omega arith), none_below x ys (λ k p. h (suc k) (omega arith)))

  rises : (xs : List X) → ((i j : ℕ) (d : X) → i ≤ j → j < length xs → lt (get_or xs j d) (get_or xs i d) ≡ false) → Rises xs
  rises [] h = tt
  rises (x ∷ xs) h = (none_below x xs (λ k p. h 0 (suc k) x (omega arith) (omega arith)), rises xs (λ i j d p q. h (suc i) (suc j) d (omega arith) (omega arith)))

  put_none_below : (x h : X) (ys : List X) → lt h x ≡ false → NoneBelow x ys → NoneBelow x (put h ys)
  put_none_below x h [] e none = (e, tt)
  put_none_below x h (y ∷ ys) e none = go (lt h y) (put_none_below x h ys e none.1)
    where
      go : (b : Bool) → NoneBelow x (put h ys) → NoneBelow x (cond b (h ∷ y ∷ ys) (y ∷ put h ys))
      go true rec = (e, none)
      go false rec = (none.0, rec)

  -- what a filter of them keeps first is not less either
  kept_first : (t : X → Bool) (y x : X) (zs rest : List X) → NoneBelow y zs → filter t zs ≡ x ∷ rest → lt x y ≡ false
  kept_first t y x [] rest none e = absurd (omega (arith, ap length e))
  kept_first t y x (z ∷ zs) rest none e = go (t z) e (kept_first t y x zs rest none.1)
    where
      go : (b : Bool) → cond b (z ∷ filter t zs) (filter t zs) ≡ x ∷ rest → (filter t zs ≡ x ∷ rest → lt x y ≡ false) → lt x y ≡ false
      go true e rec = ap (λ (l : List X). lt (get_or l 0 x) y) (sym e) ∙ none.0
      go false e rec = rec e

module _ {X : Type 0} (lt : X → X → Bool) (o : IsStrictWeakOrder lt) where
  not_below_itself : (x : X) → lt x x ≡ false
  not_below_itself x = elim (cases_Bool (lt x x)) [ inl e ↦ o.one_way x x e | inr e ↦ e ]

  kept_itself : (x : X) (xs : List X) → filter (ties lt x) (x ∷ xs) ≡ x ∷ filter (ties lt x) xs
  kept_itself x xs = kept (ties lt x) x xs (ap (λ (b : Bool). not b && not b) (not_below_itself x))

  -- ---- one list alone rises and has these ties in this order

  not_below_first : (x y : X) (xs ys : List X) → Rises lt (y ∷ ys) → filter (ties lt x) (x ∷ xs) ≡ filter (ties lt x) (y ∷ ys) → lt x y ≡ false
  not_below_first x y xs ys up same = kept_first lt (ties lt x) y x (y ∷ ys) (filter (ties lt x) xs) (not_below_itself y, up.0) (sym same ∙ kept_itself x xs)

  alone : (xs ys : List X) → Rises lt xs → Rises lt ys → ((q : X) → filter (ties lt q) xs ≡ filter (ties lt q) ys) → xs ≡ ys
  alone [] [] a b same = refl
  alone [] (y ∷ ys) a b same = absurd (omega (arith, ap length (same y ∙ kept_itself y ys)))
  alone (x ∷ xs) [] a b same = absurd (omega (arith, ap length (sym (same x) ∙ kept_itself x xs)))
  alone (x ∷ xs) (y ∷ ys) a b same =
      let below = not_below_first x y xs ys b (same x) in
      let above = not_below_first y x ys xs a (sym (same y)) in
      let tie : ties lt x y ≡ true = ap₂ (λ (b c : Bool). not b && not c) below above in
      let first : x ≡ y = ap (λ (l : List X). get_or l 0 x) (sym (kept_itself x xs) ∙ same x ∙ kept (ties lt x) y ys tie) in
      ap₂ (λ (z : X) (l : List X). z ∷ l) first (alone xs ys a.1 b.1 (λ q. kept_behind (ties lt q) x y xs ys first (same q)))

  -- ---- the insertion sort rises

  none_below_less : (h y : X) (ys : List X) → lt y h ≡ false → NoneBelow lt y ys → NoneBelow lt h ys
  none_below_less h y [] e none = tt
  none_below_less h y (z ∷ zs) e none = (o.chain z y h none.0 e, none_below_less h y zs e none.1)

  put_rises : (h : X) (ys : List X) → Rises lt ys → Rises lt (put lt h ys)
  put_rises h [] up = (tt, tt)
  put_rises h (y ∷ ys) up = go (lt h y) refl (put_rises h ys up.1)
    where
      go : (b : Bool) → lt h y ≡ b → Rises lt (put lt h ys) → Rises lt (cond b (h ∷ y ∷ ys) (y ∷ put lt h ys))
      go true e rec = ((o.one_way h y e, none_below_less h y ys (o.one_way h y e) up.0), up)
      go false e rec = (put_none_below lt y h ys e up.0, rec)

  put_all_rises : (hs sorted : List X) → Rises lt sorted → Rises lt (put_all lt hs sorted)
  put_all_rises [] sorted up = up
  put_all_rises (h ∷ hs) sorted up = put_all_rises hs (put lt h sorted) (put_rises h sorted up)

  -- ---- the insertion sort leaves ties in their order

  -- what h is less than, what ties with h is less than
  below_too : (q h y : X) → lt h q ≡ false → lt h y ≡ true → lt q y ≡ true
  below_too q h y tied less = true_from_ne_false (lt q y) (λ e. true≢false (sym less ∙ o.chain h q y tied e))

  below_rest : (h y : X) (zs : List X) → lt h y ≡ true → NoneBelow lt y zs → AllByRecursion (λ z. lt h z ≡ true) zs
  below_rest h y [] less none = tt
  below_rest h y (z ∷ zs) less none = (true_from_ne_false (lt h z) (λ e. true≢false (sym less ∙ o.chain h z y e none.0)), below_rest h y zs less none.1)

  none_ties : (q h : X) (zs : List X) → lt h q ≡ false → AllByRecursion (λ z. lt h z ≡ true) zs → filter (ties lt q) zs ≡ []
  none_ties q h [] tied all = refl
  none_ties q h (z ∷ zs) tied all = left_out (ties lt q) z zs (ap (λ (b : Bool). not b && not (lt z q)) (below_too q h z tied all.0)) ∙ none_ties q h zs tied all.1

  put_keeps : (q h : X) (ys : List X) → Rises lt ys → filter (ties lt q) (put lt h ys) ≡ filter (ties lt q) ys ++ filter (ties lt q) (h ∷ [])
  put_keeps q h [] up = refl
  put_keeps q h (y ∷ ys) up = go (lt h y) refl (put_keeps q h ys up.1)
    where
      t : X → Bool
      t = ties lt q

      ahead : lt h y ≡ true → (t h ≡ true) ⊎ (t h ≡ false) → filter t (h ∷ y ∷ ys) ≡ filter t (y ∷ ys) ++ filter t (h ∷ [])
      ahead less (inl tied) =
          let not_less = not-true (lt h q) (and_parts (not (lt q h)) (not (lt h q)) tied).1 in
          let none = none_ties q h (y ∷ ys) not_less (less, below_rest h y ys less up.0) in
          kept t h (y ∷ ys) tied ∙ ap (λ (l : List X). h ∷ l) none ∙ sym (ap₂ (λ (a b : List X). a ++ b) none (kept t h [] tied))
      ahead less (inr free) = left_out t h (y ∷ ys) free ∙ sym (append-nil (filter t (y ∷ ys))) ∙ ap (λ (l : List X). filter t (y ∷ ys) ++ l) (sym (left_out t h [] free))

      go : (b : Bool) → lt h y ≡ b → filter t (put lt h ys) ≡ filter t ys ++ filter t (h ∷ []) → filter t (cond b (h ∷ y ∷ ys) (y ∷ put lt h ys)) ≡ filter t (y ∷ ys) ++ filter t (h ∷ [])
      go true e rec = ahead e (cases_Bool (t h))
      go false e rec = ap (λ (l : List X). cond (t y) (y ∷ l) l) rec ∙ cond_append (t y) y (filter t ys) (filter t (h ∷ []))

  put_all_keeps : (q : X) (hs sorted : List X) → Rises lt sorted → filter (ties lt q) (put_all lt hs sorted) ≡ filter (ties lt q) sorted ++ filter (ties lt q) hs
  put_all_keeps q [] sorted up = sym (append-nil (filter (ties lt q) sorted))
  put_all_keeps q (h ∷ hs) sorted up =
      let t = ties lt q in
      put_all_keeps q hs (put lt h sorted) (put_rises h sorted up)
      ∙ ap (λ (l : List X). l ++ filter t hs) (put_keeps q h sorted up)
      ∙ append_assoc (filter t sorted) (filter t (h ∷ [])) (filter t hs)
      ∙ ap (λ (l : List X). filter t sorted ++ l) (sym (filter-append t (h ∷ []) hs))

  is_put_all : (xs ys : List X) → IsSortedBy lt ys → IsStableBy lt xs ys → ys ≡ put_all lt xs []
  is_put_all xs ys up stable = alone ys (put_all lt xs []) (rises lt ys (sorted_far lt o ys up)) (put_all_rises xs [] tt) (λ q. stable q ∙ sym (put_all_keeps q xs [] tt))

-- ---- the order of the keys of headers

abbrev header_cmp : LsaHeader → LsaHeader → Ordering
header_cmp a b = ordering_then (nat_cmp a.kind b.kind) (ordering_then (nat_cmp a.id b.id) (nat_cmp a.router.0 b.router.0))

then_less : (m n : ℕ) (r : Ordering) → is_lt (ordering_then (nat_cmp m n) r) ≡ (nat_lt m n || ((m == n) && is_lt r))
then_less m n r = go (nat_lt m n) (m == n)
  where
    go : (b c : Bool) → is_lt (ordering_then (cond b Less (cond c Equal Greater)) r) ≡ (b || (c && is_lt r))
    go true c = refl
    go false true = refl
    go false false = refl

nat_less : (m n : ℕ) → is_lt (nat_cmp m n) ≡ nat_lt m n
nat_less m n = go (nat_lt m n) (m == n)
  where
    go : (b c : Bool) → is_lt (cond b Less (cond c Equal Greater)) ≡ b
    go true c = refl
    go false true = refl
    go false false = refl

header_less : (a b : LsaHeader) → is_lt (header_cmp a b) ≡ header_precedes a b
header_less a b =
    then_less a.kind b.kind (ordering_then (nat_cmp a.id b.id) (nat_cmp a.router.0 b.router.0))
    ∙ ap (λ (r : Bool). nat_lt a.kind b.kind || ((a.kind == b.kind) && r))
    (then_less a.id b.id (nat_cmp a.router.0 b.router.0) ∙ ap (λ (r : Bool). nat_lt a.id b.id || ((a.id == b.id) && r)) (nat_less a.router.0 b.router.0))

header_total : IsTotalOrder header_cmp
header_total = then_total (on_total (λ (h : LsaHeader). h.kind) nat_cmp_total) (then_total (on_total (λ (h : LsaHeader). h.id) nat_cmp_total) (on_total (λ (h : LsaHeader). h.router.0) nat_cmp_total))

pub header_order : IsStrictWeakOrder header_precedes
header_order = subst (λ (lt : LsaHeader → LsaHeader → Bool). IsStrictWeakOrder lt) (λ i a b. header_less a b i) (ranks_by header_total (λ (h : LsaHeader). h))

-- ---- headers in order

put_is : (h : LsaHeader) (xs : List LsaHeader) → put header_precedes h xs ≡ put_in_order h xs
put_is h [] = refl
put_is h (x ∷ xs) = ap (λ (l : List LsaHeader). if header_precedes h x then h ∷ x ∷ xs else x ∷ l) (put_is h xs)

put_all_is : (hs sorted : List LsaHeader) → put_all header_precedes hs sorted ≡ put_all_in_order hs sorted
put_all_is [] sorted = refl
put_all_is (h ∷ hs) sorted = put_all_is hs (put header_precedes h sorted) ∙ ap (λ (l : List LsaHeader). put_all_in_order hs l) (put_is h sorted)

pub sorted_is_in_order : (xs ys : List LsaHeader) → IsSortedBy header_precedes ys → IsStableBy header_precedes xs ys → ys ≡ in_order xs
sorted_is_in_order xs ys up stable = is_put_all header_precedes header_order xs ys up stable ∙ put_all_is xs []

-- ---- and rises, with ties as they came

module _ {X : Type 0} (lt : X → X → Bool) where
  next_not_below : (xs : List X) → Rises lt xs → (k : ℕ) (d : X) → suc k < length xs → lt (get_or xs (suc k) d) (get_or xs k d) ≡ false
  next_not_below [] up k d lt' = absurd (omega arith)
  next_not_below (x ∷ []) up k d lt' = absurd (omega arith)
  next_not_below (x ∷ y ∷ ys) up zero d lt' = up.0.0
  next_not_below (x ∷ y ∷ ys) up (suc k) d lt' = next_not_below (y ∷ ys) up.1 k d (omega arith)

  sorted_by : (xs : List X) → Rises lt xs → IsSortedBy lt xs
  sorted_by xs up k d from to = rw add-one (next_not_below xs up k d (omega arith))

pub in_order_rises : (hs : List LsaHeader) → IsSortedBy header_precedes (in_order hs)
in_order_rises hs = subst (λ (l : List LsaHeader). IsSortedBy header_precedes l) (put_all_is hs []) (sorted_by header_precedes (put_all header_precedes hs []) (put_all_rises header_precedes header_order hs [] tt))

pub in_order_stable : (hs : List LsaHeader) → IsStableBy header_precedes hs (in_order hs)
in_order_stable hs q = ap (λ (l : List LsaHeader). filter (ties header_precedes q) l) (sym (put_all_is hs [])) ∙ put_all_keeps header_precedes header_order q hs [] tt
