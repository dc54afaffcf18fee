-- Lists of keys in order: where a key stands, or belongs, and a list with one more or one less.
use Rattle.std.proofs.Common.{◌≡◌, ◌<◌, ◌≤◌, ◌+◌, inl, inr, ℕ, zero, suc, Bool, true, false, List, [], ◌∷◌, ◌++◌, length, length-drop, take, drop, get_or, refl, ap, sym, ◌∙◌, subst, arith}
use Rattle.std.specs.Ordering.{is_eq, is_lt, ordering_index}
use Rattle.std.specs.declared.cmp.Ordering.{Ordering}
use Rattle.std.specs.declared.cmp.Ordering.TheVariants.{Less, Equal, Greater}
use Rattle.std.specs.List.{AllByRecursion, HoldsAt}
use Rattle.std.specs.List.Sorted.{IsNonDecreasingBy, IsPartitionPoint}
use Rattle.std.proofs.lemmas.List.{drop_more, get_or-drop, get_or-take, length-take, take-append-drop}
use Rattle.std.proofs.lemmas.List.Elements.{All-from_recursion, recursion_from_All}
use Rattle.std.proofs.lemmas.List.Sorted.{searchable_from_sorted}
use Rattle.ospf_base.specs.Rising.{IsRisingBy}
use Rattle.ospf_base.specs.contracts.ids.LsaKeyOrd.TheImpl.Laws.{total-law}
use Rattle.ospf_base.specs.declared.ids.LsaKey.{LsaKey}
use Rattle.ospf_base.specs.Keys.{Precedes, key_cmp, same_key}
use Rattle.ospf_base.proofs.KeyMaps.{is_eq-key_cmp, key_cmp-less, less-key_cmp}
use Rattle.ospf_base.proofs.KeyOrder.{Precedes-cases, Precedes-irrefl, Precedes-trans}
use Rattle.ospf_base.proofs.SameKeys.{same_key-apart, same_key-eq, same_key-refl}
use Rattle.ospf_lsa.proofs.ListingLemmas.{all_back, all_front, all_join}
use Rattle.ospf_lsdb.specs.Expired.{SetsKey}
use Rattle.ospf_lsdb.specs.Moments.{among}
use Rattle.ospf_lsdb.proofs.MapLemmas.{bool_cases}
use Rattle.ospf_lsdb.proofs.ReachedKeys.{KeysAfter, not_among}

abbrev KeysBefore : LsaKey → List LsaKey → Type 0
KeysBefore key ks = AllByRecursion (λ k. Precedes k key) ks

-- ---- a list about a key

rise_put : (xs : List LsaKey) (key : LsaKey) (ys : List LsaKey) → IsRisingBy Precedes (xs ++ ys) → KeysBefore key xs → KeysAfter key ys → IsRisingBy Precedes (xs ++ key ∷ ys)
rise_put [] key ys rises before after = (after, rises)
rise_put (x ∷ xs) key ys rises before after = (
  all_join (λ o. Precedes x o) xs (key ∷ ys) (all_front (λ o. Precedes x o) xs ys rises.0) (before.0, all_back (λ o. Precedes x o) xs ys rises.0),
  rise_put xs key ys rises.1 before.1 after,
)

rise_removed : (xs : List LsaKey) (key : LsaKey) (ys : List LsaKey) → IsRisingBy Precedes (xs ++ key ∷ ys) → IsRisingBy Precedes (xs ++ ys)
rise_removed [] key ys rises = rises.1
rise_removed (x ∷ xs) key ys rises = (
  all_join (λ o. Precedes x o) xs ys (all_front (λ o. Precedes x o) xs (key ∷ ys) rises.0) (all_back (λ o. Precedes x o) xs (key ∷ ys) rises.0).1,
  rise_removed xs key ys rises.1,
)

rise_before : (xs : List LsaKey) (key : LsaKey) (ys : List LsaKey) → IsRisingBy Precedes (xs ++ key ∷ ys) → KeysBefore key xs
rise_before [] key ys rises = tt
rise_before (x ∷ xs) key ys rises = ((all_back (λ o. Precedes x o) xs (key ∷ ys) rises.0).0, rise_before xs key ys rises.1)

rise_after : (xs : List LsaKey) (key : LsaKey) (ys : List LsaKey) → IsRisingBy Precedes (xs ++ key ∷ ys) → KeysAfter key ys
rise_after [] key ys rises = rises.0
rise_after (x ∷ xs) key ys rises = rise_after xs key ys rises.1

-- in a gap there is no key
none_of : (xs : List LsaKey) (key : LsaKey) (ys : List LsaKey) → KeysBefore key xs → KeysAfter key ys → among (xs ++ ys) key ≡ false
none_of [] key ys before after = not_among key ys after
none_of (x ∷ xs) key ys before after = let no = same_key-apart x key before.0 in rw no (none_of xs key ys before.1 after)

-- a key put in is there, beside all others
among_put : (xs : List LsaKey) (key : LsaKey) (ys : List LsaKey) → SetsKey key true (xs ++ ys) (xs ++ key ∷ ys)
among_put [] key ys k = elim (bool_cases (same_key key k)) [ inl one ↦ rw one refl | inr two ↦ rw two refl ]
among_put (x ∷ xs) key ys k = elim (bool_cases (same_key x k)) [
  | inl here ↦ elim (bool_cases (same_key key k)) [ inl one ↦ rw (here, one) refl | inr two ↦ rw (here, two) refl ]
  | inr there ↦ rw there (among_put xs key ys k)
]

-- what is set so already
pub set_same : (key : LsaKey) (is_in : Bool) (ks : List LsaKey) → among ks key ≡ is_in → SetsKey key is_in ks ks
set_same key is_in ks is k = elim (bool_cases (same_key key k)) [
  | inl one ↦ rw one (subst (λ (q : LsaKey). among ks q ≡ is_in) (same_key-eq key k one) is)
  | inr two ↦ rw two refl
]

-- a key taken out is not, and all others are
among_removed : (xs : List LsaKey) (key : LsaKey) (ys : List LsaKey) → IsRisingBy Precedes (xs ++ key ∷ ys) → SetsKey key false (xs ++ key ∷ ys) (xs ++ ys)
among_removed xs key ys rises k = elim (bool_cases (same_key key k)) [
  | inl one ↦
      let none = none_of xs key ys (rise_before xs key ys rises) (rise_after xs key ys rises) in
      rw one (subst (λ (q : LsaKey). among (xs ++ ys) q ≡ false) (same_key-eq key k one) none)
  | inr two ↦ let put : among (xs ++ key ∷ ys) k ≡ among (xs ++ ys) k = simp two at (among_put xs key ys k) in rw two (sym put)
]

-- ---- what a search tells

precede : (ks : List LsaKey) → IsRisingBy Precedes ks → (i j : ℕ) (d : LsaKey) → i < j → j < length ks → Precedes (get_or ks i d) (get_or ks j d)
precede [] rises i j d lt within = absurd (omega arith)
precede (x ∷ xs) rises i zero d lt within = absurd (omega arith)
precede (x ∷ xs) rises zero (suc j) d lt within = All-from_recursion (λ o. Precedes x o) xs rises.0 j d (omega arith)
precede (x ∷ xs) rises (suc i) (suc j) d lt within = precede xs rises.1 i j d (omega arith) (omega arith)

not_less : (a b : LsaKey) → Precedes a b → is_lt (key_cmp b a) ≡ false
not_less a b lt = by (key_cmp b a) refl
  where
    by : (o : Ordering) → key_cmp b a ≡ o → is_lt o ≡ false
    by Less is = absurd (Precedes-irrefl a (Precedes-trans a b a lt (key_cmp-less b a is)))
    by Equal is = refl
    by Greater is = refl

searchable : (ks : List LsaKey) (key : LsaKey) → IsRisingBy Precedes ks → IsNonDecreasingBy (λ y. ordering_index (key_cmp y key)) ks
searchable ks key rises = searchable_from_sorted total-law (λ y. y) ks key (λ k d low high. not_less (get_or ks k d) (get_or ks (k + 1) d) (precede ks rises k (k + 1) d (omega arith) high))

behind : (a key : LsaKey) → key_cmp a key ≡ Greater → Precedes key a
behind a key is = elim (Precedes-cases a key) [
  | inl same ↦ absurd (let e : key_cmp key key ≡ Greater = subst (λ (q : LsaKey). key_cmp q key ≡ Greater) same is in let f = is_eq-key_cmp key key in let g = same_key-refl key in let h : is_eq (key_cmp key key) ≡ false = rw e refl in cc)
  | inr far ↦ elim far [ inl less ↦ absurd (let e = less-key_cmp a key less in cc) | inr more ↦ more ]
]

equal : (a key : LsaKey) → key_cmp a key ≡ Equal → a ≡ key
equal a key is = let e : is_eq (key_cmp a key) ≡ true = rw is refl in same_key-eq a key (sym (is_eq-key_cmp a key) ∙ e)

-- where the key was found, it stands
found : (ks : List LsaKey) (key : LsaKey) (i : ℕ) → i < length ks → HoldsAt (λ y. key_cmp y key ≡ Equal) ks i → ks ≡ take i ks ++ key ∷ drop (i + 1) ks
found ks key i within at =
    sym (take-append-drop i ks) ∙ ap (λ (t : List LsaKey). take i ks ++ t) (drop_more ks i key within)
    ∙ ap (λ (k : LsaKey). take i ks ++ k ∷ drop (i + 1) ks) (equal (get_or ks i key) key (at key))

-- where it was not, it belongs
abbrev IsGapAt : List LsaKey → LsaKey → ℕ → Type 0
IsGapAt ks key i = IsNonDecreasingBy (λ y. ordering_index (key_cmp y key)) ks → IsPartitionPoint (λ y. key_cmp y key ≡ Less) (λ y. key_cmp y key ≡ Greater) ks i

before_gap : (ks : List LsaKey) (key : LsaKey) (i : ℕ) → IsRisingBy Precedes ks → i ≤ length ks → IsGapAt ks key i → KeysBefore key (take i ks)
before_gap ks key i rises within parted = recursion_from_All (λ k. Precedes k key) (take i ks) (λ k d lt.
    let below : k < i = omega (arith, length-take {A = LsaKey}) in
    subst (λ (q : LsaKey). Precedes q key) (sym (get_or-take i ks k d below)) (key_cmp-less (get_or ks k d) key ((parted (searchable ks key rises)).0 k d (omega arith) below)))

after_gap : (ks : List LsaKey) (key : LsaKey) (i : ℕ) → IsRisingBy Precedes ks → i ≤ length ks → IsGapAt ks key i → KeysAfter key (drop i ks)
after_gap ks key i rises within parted = recursion_from_All (λ k. Precedes key k) (drop i ks) (λ k d lt.
    let below : i + k < length ks = omega (arith, length-drop {A = LsaKey}) in
    subst (λ (q : LsaKey). Precedes key q) (sym (get_or-drop i ks k d)) (behind (get_or ks (i + k) d) key ((parted (searchable ks key rises)).1 (i + k) d (omega arith) below)))

-- ---- the list afterwards

-- a key that was found is there already
pub found_there : (ks : List LsaKey) (key : LsaKey) (i : ℕ) → i < length ks → HoldsAt (λ y. key_cmp y key ≡ Equal) ks i → SetsKey key true ks ks
found_there ks key i within at =
    let here : among (take i ks ++ key ∷ drop (i + 1) ks) key ≡ true = let is = same_key-refl key in among_put (take i ks) key (drop (i + 1) ks) key ∙ rw is refl in
    set_same key true ks (ap (λ (l : List LsaKey). among l key) (found ks key i within at) ∙ here)

pub put_in : (ks : List LsaKey) (key : LsaKey) (i : ℕ) → IsRisingBy Precedes ks → i ≤ length ks → IsGapAt ks key i → (after : List LsaKey) → after ≡ take i ks ++ key ∷ drop i ks → IsRisingBy Precedes after × SetsKey key true ks after
put_in ks key i rises within gap after is =
    let whole = take-append-drop i ks in (
      subst (λ (l : List LsaKey). IsRisingBy Precedes l) (sym is) (rise_put (take i ks) key (drop i ks) (subst (λ (l : List LsaKey). IsRisingBy Precedes l) (sym whole) rises) (before_gap ks key i rises within gap) (after_gap ks key i rises within gap)),
      subst (λ (l : List LsaKey). SetsKey key true l after) whole (subst (λ (l : List LsaKey). SetsKey key true (take i ks ++ drop i ks) l) (sym is) (among_put (take i ks) key (drop i ks))),
    )

pub taken_out : (ks : List LsaKey) (key : LsaKey) (i : ℕ) → IsRisingBy Precedes ks → i < length ks → HoldsAt (λ y. key_cmp y key ≡ Equal) ks i → (after : List LsaKey) → after ≡ take i ks ++ drop (i + 1) ks → IsRisingBy Precedes after × SetsKey key false ks after
taken_out ks key i rises within at after is =
    let whole = found ks key i within at in
    let split : IsRisingBy Precedes (take i ks ++ key ∷ drop (i + 1) ks) = subst (λ (l : List LsaKey). IsRisingBy Precedes l) whole rises in (
      subst (λ (l : List LsaKey). IsRisingBy Precedes l) (sym is) (rise_removed (take i ks) key (drop (i + 1) ks) split),
      subst (λ (l : List LsaKey). SetsKey key false l after) (sym whole) (subst (λ (l : List LsaKey). SetsKey key false (take i ks ++ key ∷ drop (i + 1) ks) l) (sym is) (among_removed (take i ks) key (drop (i + 1) ks) split)),
    )

pub not_there : (ks : List LsaKey) (key : LsaKey) (i : ℕ) → IsRisingBy Precedes ks → i ≤ length ks → IsGapAt ks key i → SetsKey key false ks ks
not_there ks key i rises within gap =
    set_same key false ks (ap (λ (l : List LsaKey). among l key) (sym (take-append-drop i ks)) ∙ none_of (take i ks) key (drop i ks) (before_gap ks key i rises within gap) (after_gap ks key i rises within gap))
