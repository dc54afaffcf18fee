-- Kept numbers, and marks, key by key.
use Rattle.std.proofs.Common.{◌≡◌, ◌==◌, ◌&&◌, ◌||◌, ℤ, Bool, true, false, true≢false, cond, if◌then◌else◌, Option, None, Some, List, [], ◌∷◌, ◌++◌, map, not, refl, sym, ap, subst, ◌∙◌, Ordering, Less, Equal, Greater}
use Rattle.std.specs.BTreeSet.{insert_key}
use Rattle.std.specs.Int.{int_max}
use Rattle.std.specs.List.{list_any}
use Rattle.std.specs.Option.{option_map}
use Rattle.std.specs.Ordering.{is_eq, match_ordering}
use Rattle.std.specs.Set.{remove_key}
use Rattle.ospf_base.proofs.SameKeys.{same_key-eq, same_key-refl, same_key-turned}
use Rattle.ospf_base.proofs.KeyMaps.{is_eq-key_cmp}
use Rattle.ospf_base.specs.Keys.{same_key, key_cmp}
use Rattle.ospf_base.specs.declared.ids.LsaKey.{LsaKey}
use Rattle.ospf_base.specs.declared.ids.RouterId.{RouterId}
use Rattle.ospf_area.specs.Numbers.{marked}
use Rattle.ospf_lsdb.specs.Moments.{among}
use Rattle.ospf_area.specs.State.{numbering_of}
use Rattle.ospf_area.proofs.Words.{kept_in, counted, counted_one, unmarked, is_numbering_of}
use Rattle.ospf_area.specs.declared.state.Numbering.{Numbering}
use Rattle.ospf_area.proofs.LawLemmas.{find-map}

-- ---- kept numbers

pub counted_key : (key : LsaKey) (number : ℤ) (n : Numbering) → (counted_one key number n).key ≡ n.key
counted_key key number n = by_test (is_numbering_of key n)
  where
    by_test : (b : Bool) → (if b then record n { kept = int_max n.kept number } else n).key ≡ n.key
    by_test true = refl
    by_test false = refl

-- the entries of the key, counted on
all_counted : (key k : LsaKey) (number : ℤ) (ns : List Numbering) → numbering_of (map (counted_one key number) ns) k ≡ option_map (counted_one key number) (numbering_of ns k)
all_counted key k number ns = find-map (λ (n : Numbering). same_key n.key k) (counted_one key number) (λ n. ap (λ (j : LsaKey). same_key j k) (counted_key key number n)) ns

-- an entry that is found is of its key
pub found_of : (k : LsaKey) (ns : List Numbering) (n : Numbering) → numbering_of ns k ≡ Some n → same_key n.key k ≡ true
found_of k [] n e = absurd (cc)
found_of k (x ∷ ns) n e = by_test (same_key x.key k) refl (found_of k ns n) e
  where
    by_test : (b : Bool) → same_key x.key k ≡ b → (numbering_of ns k ≡ Some n → same_key n.key k ≡ true) → (if b then Some x else numbering_of ns k) ≡ Some n → same_key n.key k ≡ true
    by_test true t rest e' = let same : x ≡ n = cc in subst (λ (y : Numbering). same_key y.key k ≡ true) same t
    by_test false t rest e' = rest e'

-- the last entry is found where none is before it
found_last : (k : LsaKey) (ns : List Numbering) (n : Numbering) → numbering_of ns k ≡ None → numbering_of (ns ++ n ∷ []) k ≡ (if same_key n.key k then Some n else None)
found_last k [] n e = refl
found_last k (x ∷ ns) n e = by_test (same_key x.key k) (found_last k ns n) e
  where
    by_test : (b : Bool) → (numbering_of ns k ≡ None → numbering_of (ns ++ n ∷ []) k ≡ (if same_key n.key k then Some n else None))
        → (if b then Some x else numbering_of ns k) ≡ None → (if b then Some x else numbering_of (ns ++ n ∷ []) k) ≡ (if same_key n.key k then Some n else None)
    by_test true rest e' = absurd (cc)
    by_test false rest e' = rest e'

-- one before it is found as before
found_before : (k : LsaKey) (ns : List Numbering) (n x : Numbering) → numbering_of ns k ≡ Some x → numbering_of (ns ++ n ∷ []) k ≡ Some x
found_before k [] n x e = absurd (cc)
found_before k (y ∷ ns) n x e = by_test (same_key y.key k) (found_before k ns n x) e
  where
    by_test : (b : Bool) → (numbering_of ns k ≡ Some x → numbering_of (ns ++ n ∷ []) k ≡ Some x) → (if b then Some y else numbering_of ns k) ≡ Some x → (if b then Some y else numbering_of (ns ++ n ∷ []) k) ≡ Some x
    by_test true rest e' = e'
    by_test false rest e' = rest e'

none_of : (key : LsaKey) (ns : List Numbering) → list_any (is_numbering_of key) ns ≡ false → numbering_of ns key ≡ None
none_of key [] e = refl
none_of key (x ∷ ns) e = by_test (same_key x.key key) (none_of key ns) e
  where
    by_test : (b : Bool) → (list_any (is_numbering_of key) ns ≡ false → numbering_of ns key ≡ None) → (b || list_any (is_numbering_of key) ns) ≡ false → (if b then Some x else numbering_of ns key) ≡ None
    by_test true rest e' = absurd (cc)
    by_test false rest e' = rest e'

some_of : (key : LsaKey) (ns : List Numbering) → list_any (is_numbering_of key) ns ≡ true → (x : Numbering) × (numbering_of ns key ≡ Some x)
some_of key [] e = absurd (cc)
some_of key (x ∷ ns) e = by_test (same_key x.key key) (some_of key ns) e
  where
    by_test : (b : Bool) → (list_any (is_numbering_of key) ns ≡ true → (y : Numbering) × (numbering_of ns key ≡ Some y)) → (b || list_any (is_numbering_of key) ns) ≡ true → (y : Numbering) × ((if b then Some x else numbering_of ns key) ≡ Some y)
    by_test true rest e' = (x, refl)
    by_test false rest e' = rest e'

-- of the key that is counted
counted_here : (key : LsaKey) (number floor : ℤ) (ns : List Numbering) → kept_in floor (numbering_of (counted key number floor ns) key) ≡ int_max (kept_in floor (numbering_of ns key)) number
counted_here key number floor ns = by_test (list_any (is_numbering_of key) ns) refl
  where
    new : Numbering
    new = record { key = key; kept = int_max floor number; issued_at = None }

    by_test : (b : Bool) → list_any (is_numbering_of key) ns ≡ b → kept_in floor (numbering_of (if b then map (counted_one key number) ns else ns ++ new ∷ []) key) ≡ int_max (kept_in floor (numbering_of ns key)) number
    by_test true e =
        let found = some_of key ns e in
        let is_key = found_of key ns found.0 found.1 in
        ap (kept_in floor) (all_counted key key number ns ∙ ap (option_map (counted_one key number)) found.1)
        ∙ ap (λ (b : Bool). (if b then record found.0 { kept = int_max found.0.kept number } else found.0).kept) is_key
        ∙ ap (λ (o : Option Numbering). int_max (kept_in floor o) number) (sym found.1)
    by_test false e =
        let none = none_of key ns e in
        ap (kept_in floor) (found_last key ns new none ∙ ap (λ (b : Bool). if b then Some new else None) (same_key-refl key))
        ∙ ap (λ (o : Option Numbering). int_max (kept_in floor o) number) (sym none)

-- of another key
counted_there : (key k : LsaKey) (number floor : ℤ) (ns : List Numbering) → same_key key k ≡ false → kept_in floor (numbering_of (counted key number floor ns) k) ≡ kept_in floor (numbering_of ns k)
counted_there key k number floor ns apart = by_test (list_any (is_numbering_of key) ns)
  where
    new : Numbering
    new = record { key = key; kept = int_max floor number; issued_at = None }

    stays : (o : Option Numbering) → numbering_of ns k ≡ o → kept_in floor (option_map (counted_one key number) o) ≡ kept_in floor o
    stays None e = refl
    stays (Some n) e = other (same_key n.key key) refl
      where
        other : (b : Bool) → same_key n.key key ≡ b → (if b then record n { kept = int_max n.kept number } else n).kept ≡ n.kept
        other false t = refl
        other true t =
            let same = same_key-eq n.key key t in
            let is : same_key key k ≡ true = subst (λ (j : LsaKey). same_key j k ≡ true) same (found_of k ns n e) in
            absurd (cc)

    behind : (o : Option Numbering) → numbering_of ns k ≡ o → kept_in floor (numbering_of (ns ++ new ∷ []) k) ≡ kept_in floor (numbering_of ns k)
    behind None e = ap (kept_in floor) (found_last k ns new e ∙ ap (λ (b : Bool). if b then Some new else None) apart ∙ sym e)
    behind (Some x) e = ap (kept_in floor) (found_before k ns new x e ∙ sym e)

    by_test : (b : Bool) → kept_in floor (numbering_of (if b then map (counted_one key number) ns else ns ++ new ∷ []) k) ≡ kept_in floor (numbering_of ns k)
    by_test true = ap (kept_in floor) (all_counted key k number ns) ∙ stays (numbering_of ns k) refl
    by_test false = behind (numbering_of ns k) refl

pub counted_kept : (key k : LsaKey) (number floor : ℤ) (ns : List Numbering)
    → kept_in floor (numbering_of (counted key number floor ns) k) ≡ (if same_key key k then int_max (kept_in floor (numbering_of ns k)) number else kept_in floor (numbering_of ns k))
counted_kept key k number floor ns = by_test (same_key key k) refl
  where
    by_test : (b : Bool) → same_key key k ≡ b → kept_in floor (numbering_of (counted key number floor ns) k) ≡ (if b then int_max (kept_in floor (numbering_of ns k)) number else kept_in floor (numbering_of ns k))
    by_test true e = subst (λ (j : LsaKey). kept_in floor (numbering_of (counted key number floor ns) j) ≡ int_max (kept_in floor (numbering_of ns j)) number) (same_key-eq key k e) (counted_here key number floor ns)
    by_test false e = counted_there key k number floor ns e

-- the router's own keys alone are counted
pub own_counted : (own : RouterId) (key k : LsaKey) (number floor : ℤ) (ns : List Numbering)
    → kept_in floor (numbering_of (if key.router.0 == own.0 then counted key number floor ns else ns) k)
    ≡ (if same_key key k && (k.router.0 == own.0) then int_max (kept_in floor (numbering_of ns k)) number else kept_in floor (numbering_of ns k))
own_counted own key k number floor ns = by_key (same_key key k) refl
  where
    then_own : (b : Bool) → same_key key k ≡ true → kept_in floor (numbering_of (if b then counted key number floor ns else ns) k) ≡ (if b then int_max (kept_in floor (numbering_of ns k)) number else kept_in floor (numbering_of ns k))
    then_own true e = counted_kept key k number floor ns ∙ ap (λ (b : Bool). if b then int_max (kept_in floor (numbering_of ns k)) number else kept_in floor (numbering_of ns k)) e
    then_own false e = refl

    not_it : (b : Bool) → same_key key k ≡ false → kept_in floor (numbering_of (if b then counted key number floor ns else ns) k) ≡ kept_in floor (numbering_of ns k)
    not_it true e = counted_there key k number floor ns e
    not_it false e = refl

    by_key : (b : Bool) → same_key key k ≡ b → kept_in floor (numbering_of (if key.router.0 == own.0 then counted key number floor ns else ns) k) ≡ (if b && (k.router.0 == own.0) then int_max (kept_in floor (numbering_of ns k)) number else kept_in floor (numbering_of ns k))
    by_key true e =
        then_own (key.router.0 == own.0) e
        ∙ ap (λ (j : LsaKey). if j.router.0 == own.0 then int_max (kept_in floor (numbering_of ns k)) number else kept_in floor (numbering_of ns k)) (same_key-eq key k e)
    by_key false e = not_it (key.router.0 == own.0) e

-- ---- marks

this : (a b : Bool) → (a || b) ≡ false → a ≡ false
this true b is = absurd (cc)
this false b is = refl

other : (a b : Bool) → (a || b) ≡ false → b ≡ false
other true b is = absurd (cc)
other false b is = is

-- the test of the set's order is that of one key being another
pub is_here : (key k : LsaKey) → is_eq (key_cmp key k) ≡ same_key k key
is_here key k = is_eq-key_cmp key k ∙ same_key-turned key k

-- what the set has was sent
pub set_has : (key : LsaKey) (sent : List LsaKey) → list_any (λ k. is_eq (key_cmp key k)) sent ≡ among sent key
set_has key [] = refl
set_has key (x ∷ xs) = ap (λ (b : Bool). b || list_any (λ k. is_eq (key_cmp key k)) xs) (is_here key x) ∙ ap (λ (b : Bool). same_key x key || b) (set_has key xs)

-- a key that is put in is marked, beside those that were
put_in : (key k : LsaKey) (sent : List LsaKey) → among (insert_key key_cmp sent key) k ≡ (same_key key k || among sent k)
put_in key k [] = refl
put_in key k (x ∷ xs) = by_order (key_cmp key x) refl (put_in key k xs)
  where
    over : (a b c : Bool) → c ≡ (a || b) → (a || b) ≡ (a || c)
    over true b c e = refl
    over false b c e = sym e

    twice : (a b : Bool) → (a || b) ≡ (a || (a || b))
    twice true b = refl
    twice false b = refl

    turned : (a b c : Bool) → (a || (b || c)) ≡ (b || (a || c))
    turned true true c = refl
    turned true false c = refl
    turned false b c = refl

    by_order : (o : Ordering) → key_cmp key x ≡ o → among (insert_key key_cmp xs key) k ≡ (same_key key k || among xs k)
        → among (match_ordering o (key ∷ x ∷ xs) (x ∷ xs) (x ∷ insert_key key_cmp xs key)) k ≡ (same_key key k || (same_key x k || among xs k))
    by_order Less e rest = refl
    by_order Equal e rest =
        let one : x ≡ key = same_key-eq x key (sym (is_here key x) ∙ ap is_eq e) in
        ap (λ (j : LsaKey). same_key j k || among xs k) one ∙ twice (same_key key k) (among xs k)
        ∙ ap (λ (j : LsaKey). same_key key k || (same_key j k || among xs k)) (sym one)
    by_order Greater e rest = ap (λ (b : Bool). same_key x k || b) rest ∙ turned (same_key x k) (same_key key k) (among xs k)

-- where the key is not marked, nothing leaves
all_stay : (key : LsaKey) (sent : List LsaKey) → list_any (λ k. is_eq (key_cmp key k)) sent ≡ false → unmarked key sent ≡ sent
all_stay key [] none = refl
all_stay key (x ∷ xs) none = by_test (same_key x key) refl (all_stay key xs (other (is_eq (key_cmp key x)) (list_any (λ k. is_eq (key_cmp key k)) xs) none))
  where
    by_test : (b : Bool) → same_key x key ≡ b → unmarked key xs ≡ xs → (if not b then x ∷ unmarked key xs else unmarked key xs) ≡ x ∷ xs
    by_test true e rest = absurd (let no = this (is_eq (key_cmp key x)) (list_any (λ k. is_eq (key_cmp key k)) xs) none in true≢false (sym e ∙ sym (is_here key x) ∙ no))
    by_test false e rest = ap (λ l. x ∷ l) rest

-- where the first mark of a key was the only one, it is all that leaves
taken_first : (key : LsaKey) (sent : List LsaKey) → list_any (λ k. is_eq (key_cmp key k)) (remove_key (λ k. is_eq (key_cmp key k)) sent) ≡ false
    → remove_key (λ k. is_eq (key_cmp key k)) sent ≡ unmarked key sent
taken_first key [] none = refl
taken_first key (x ∷ xs) none = by_test (is_eq (key_cmp key x)) (sym (is_here key x)) none (taken_first key xs)
  where
    by_test : (b : Bool) → same_key x key ≡ b → list_any (λ k. is_eq (key_cmp key k)) (cond b xs (x ∷ remove_key (λ k. is_eq (key_cmp key k)) xs)) ≡ false
        → (list_any (λ k. is_eq (key_cmp key k)) (remove_key (λ k. is_eq (key_cmp key k)) xs) ≡ false → remove_key (λ k. is_eq (key_cmp key k)) xs ≡ unmarked key xs)
        → cond b xs (x ∷ remove_key (λ k. is_eq (key_cmp key k)) xs) ≡ unmarked key (x ∷ xs)
    by_test true e none rest = sym (ap (λ (b : Bool). if not b then x ∷ unmarked key xs else unmarked key xs) e ∙ all_stay key xs none)
    by_test false e none rest =
        ap (λ l. x ∷ l) (rest (other (is_eq (key_cmp key x)) (list_any (λ k. is_eq (key_cmp key k)) (remove_key (λ k. is_eq (key_cmp key k)) xs)) none))
        ∙ sym (ap (λ (b : Bool). if not b then x ∷ unmarked key xs else unmarked key xs) e)

pub taken_out : (key : LsaKey) (sent left : List LsaKey) → left ≡ remove_key (λ k. is_eq (key_cmp key k)) sent → list_any (λ k. is_eq (key_cmp key k)) left ≡ false → left ≡ unmarked key sent
taken_out key sent left is none = is ∙ taken_first key sent (sym (ap (λ ks. list_any (λ k. is_eq (key_cmp key k)) ks) is) ∙ none)

-- the key's own marks are gone
unmarked_here : (key : LsaKey) (sent : List LsaKey) → among (unmarked key sent) key ≡ false
unmarked_here key [] = refl
unmarked_here key (x ∷ xs) = by_test (same_key x key) refl (unmarked_here key xs)
  where
    by_test : (b : Bool) → same_key x key ≡ b → among (unmarked key xs) key ≡ false → among (if not b then x ∷ unmarked key xs else unmarked key xs) key ≡ false
    by_test true e rest = rest
    by_test false e rest = ap (λ (b : Bool). b || among (unmarked key xs) key) e ∙ rest

-- those of others stay
unmarked_there : (key k : LsaKey) (sent : List LsaKey) → same_key key k ≡ false → among (unmarked key sent) k ≡ among sent k
unmarked_there key k [] apart = refl
unmarked_there key k (x ∷ xs) apart = by_test (same_key x key) refl (unmarked_there key k xs apart)
  where
    by_test : (b : Bool) → same_key x key ≡ b → among (unmarked key xs) k ≡ among xs k
        → among (if not b then x ∷ unmarked key xs else unmarked key xs) k ≡ (same_key x k || among xs k)
    by_test true e rest =
        rest
        ∙ sym (ap (λ (b : Bool). b || among xs k) (ap (λ (j : LsaKey). same_key j k) (same_key-eq x key e) ∙ apart))
    by_test false e rest = ap (λ (b : Bool). same_key x k || b) rest

unmarked_at : (key : LsaKey) (sent : List LsaKey) (k : LsaKey) → among (unmarked key sent) k ≡ (if same_key key k then false else among sent k)
unmarked_at key sent k = by_test (same_key key k) refl
  where
    by_test : (b : Bool) → same_key key k ≡ b → among (unmarked key sent) k ≡ (if b then false else among sent k)
    by_test true e = subst (λ (j : LsaKey). among (unmarked key sent) j ≡ false) (same_key-eq key k e) (unmarked_here key sent)
    by_test false e = unmarked_there key k sent e

pub marks : (key : LsaKey) (went : Bool) (sent : List LsaKey) (k : LsaKey) → among (marked key went sent) k ≡ (if same_key key k then went else among sent k)
marks key false sent k = unmarked_at key sent k
marks key true sent k = put_in key k sent ∙ by_test (same_key key k)
  where
    by_test : (b : Bool) → (b || among sent k) ≡ (if b then true else among sent k)
    by_test true = refl
    by_test false = refl
