-- What is listed of a key, and what changes between two listings of the same LSAs.
use Rattle.std.proofs.Common.{◌≡◌, ◌≢◌, ◌⊎◌, inl, inr, ℕ, zero, suc, Bool, true, false, List, [], ◌∷◌, ◌++◌, find, flat_map, map, refl, sym, ap, subst, ◌∙◌, ◌-◌, arith, Bor, Option, None, Some, drop, take, length, bytes_eq, is_some}
use Rattle.std.specs.Prelude.{IfNone, IfSome}
use Rattle.std.specs.List.{AllByRecursion, Any, Contains}
use Rattle.std.specs.Option.{option_copied}
use Rattle.std.proofs.lemmas.List.{take_all, length-drop}
use Rattle.std.proofs.lemmas.Slice.Eq.{bytes_eq-Decides}
use Rattle.ospf_base.proofs.KeyOrder.{Precedes-irrefl}
use Rattle.ospf_base.proofs.SameKeys.{same_key-eq, same_key-refl}
use Rattle.ospf_base.specs.Keys.{Precedes, same_key}
use Rattle.ospf_base.specs.Sums.{contents}
use Rattle.ospf_base.specs.declared.ids.Instance.{Instance}
use Rattle.ospf_base.specs.declared.ids.LsaKey.{LsaKey}
use Rattle.ospf_base.specs.declared.ids.RouterId.{RouterId}
use Rattle.ospf_lsa.proofs.Words.{IsRising}
use Rattle.ospf_lsa.specs.Listing.{HasKey, IsListing}
use Rattle.ospf_lsa.specs.Lsa.{key_of}
use Rattle.ospf_lsdb.proofs.EntryLemmas.{key_of-contents}
use Rattle.ospf_lsdb.proofs.MapLemmas.{bool_cases}
use Rattle.ospf_area.specs.Outputs.{OutputsValue}
use Rattle.ospf_lsdb.specs.Database.{Held, key_in}
use Rattle.ospf_router.proofs.AreaStep.StateFacts.{Contains-map, Contains-map_cases, Contains-nil}
use Rattle.ospf_router.specs.AreaStep.Words.{Brings}
use Rattle.ospf_router.specs.Listings.{AreListedAt, ListsBut}
use Rattle.ospf_notes.specs.LsaChanges.{left_change, lsa_at, lsa_changes, put_change, put_from}

later_key : (k : LsaKey) (lsas : List (List ℕ)) (lsa : List ℕ) → AllByRecursion (λ o. Precedes k (key_of o)) lsas → Contains lsas lsa → Precedes k (key_of lsa)
later_key k [] lsa all (n, within, is) = absurd (omega arith)
later_key k (l ∷ ls) lsa all (zero, within, is) = subst (λ (x : List ℕ). Precedes k (key_of x)) is all.0
later_key k (l ∷ ls) lsa all (suc n, within, is) = later_key k ls lsa all.1 (n, omega arith, is)

-- an LSA that is listed is found at its key
pub found_at : (lsas : List (List ℕ)) (lsa : List ℕ) → IsRising lsas → Contains lsas lsa → lsa_at lsas (key_of lsa) ≡ Some lsa
found_at [] lsa rises (n, within, is) = absurd (omega arith)
found_at (l ∷ ls) lsa rises (zero, within, is) =
    let same : same_key (key_of l) (key_of lsa) ≡ true = subst (λ (x : List ℕ). same_key (key_of l) (key_of x) ≡ true) is (same_key-refl (key_of l)) in
    rw same (ap Some is)
found_at (l ∷ ls) lsa rises (suc n, within, is) =
    let behind : Precedes (key_of l) (key_of lsa) = later_key (key_of l) ls lsa rises.0 (n, omega arith, is) in
    let other : same_key (key_of l) (key_of lsa) ≡ false = apart behind in
    rw other (found_at ls lsa rises.1 (n, omega arith, is))
  where
    apart : Precedes (key_of l) (key_of lsa) → same_key (key_of l) (key_of lsa) ≡ false
    apart behind = elim (bool_cases (same_key (key_of l) (key_of lsa))) [
      | inl one ↦ absurd (Precedes-irrefl (key_of l) (subst (λ (k : LsaKey). Precedes (key_of l) k) (sym (same_key-eq (key_of l) (key_of lsa) one)) behind))
      | inr two ↦ two
    ]

-- where none of a key is listed, none is found
pub none_at : (lsas : List (List ℕ)) (key : LsaKey) → (HasKey lsas key → ⊥) → lsa_at lsas key ≡ None
none_at [] key none = refl
none_at (l ∷ ls) key none = by (same_key (key_of l) key) refl (none_at ls key (λ has. none (suc has.0, has.1, omega (arith, has.2), has.3, has.4)))
  where
    by : (b : Bool) → same_key (key_of l) key ≡ b → lsa_at ls key ≡ None → lsa_at (l ∷ ls) key ≡ None
    by true is rest = absurd (none (0, l, omega arith, refl, same_key-eq (key_of l) key is))
    by false is rest = rw is rest

-- what a search finds, as a listing has it
pub at_by : (o : Option (Bor (List ℕ))) (lsas : List (List ℕ)) (key : LsaKey) → IsListing lsas → IfSome o (λ lsa. Contains lsas lsa.now × (key_of lsa.now ≡ key)) → IfNone o (HasKey lsas key → ⊥)
    → option_copied o ≡ lsa_at lsas key
at_by None lsas key is found none = sym (none_at lsas key none)
at_by (Some l) lsas key is found none = sym (subst (λ (k : LsaKey). lsa_at lsas k ≡ Some l.now) found.1 (found_at lsas l.now is.rising found.0))

-- ---- bytes behind a place

pub behind_all : (n : ℕ) (xs : List ℕ) → take (length xs - n) (drop n xs) ≡ drop n xs
behind_all n xs = take_all (length xs - n) (drop n xs) (omega (arith, length-drop {A = ℕ}))

pub behind_eq : (n : ℕ) (xs ys : List ℕ) → bytes_eq (take (length xs - n) (drop n xs)) (take (length ys - n) (drop n ys)) ≡ bytes_eq (drop n xs) (drop n ys)
behind_eq n xs ys = let x = behind_all n xs in let y = behind_all n ys in cc

-- ---- two listings of the same LSAs

nothing_of : {A B : Type 0} (f : A → List B) (xs : List A) → ((x : A) → Contains xs x → f x ≡ []) → flat_map f xs ≡ []
nothing_of f [] none = refl
nothing_of f (x ∷ xs) none =
    let first : f x ≡ [] = none x (zero, omega arith, refl) in
    let rest = nothing_of f xs (λ y has. none y (suc has.0, omega (arith, has.1), has.2)) in
    rw first rest

same_key_of : (a b : List ℕ) → contents a ≡ contents b → key_of a ≡ key_of b
same_key_of a b same = key_of-contents a ∙ (ap key_in same ∙ sym (key_of-contents b))

-- the other listing has an LSA of the same contents at the same key
there : (a b : List (List ℕ)) (lsa : List ℕ) → IsRising b → map contents a ≡ map contents b → Contains a lsa → (o : List ℕ) × (lsa_at b (key_of lsa) ≡ Some o) × (contents o ≡ contents lsa)
there a b lsa rises same has =
    let among : Contains (map contents b) (contents lsa) = subst (λ (cs : List (List ℕ)). Contains cs (contents lsa)) same (Contains-map contents a lsa has) in
    let found = Contains-map_cases contents b (contents lsa) among in
    let at = found_at b found.0 rises found.1 in
    (found.0, subst (λ (k : LsaKey). lsa_at b k ≡ Some found.0) (same_key_of found.0 lsa found.2) at, found.2)

bytes_same : (a b : List ℕ) → contents a ≡ contents b → bytes_eq (drop 2 a) (drop 2 b) ≡ true
bytes_same a b same = (bytes_eq-Decides (drop 2 a) (drop 2 b)).1 same

no_put : (before : Option (List ℕ)) (old lsa : List ℕ) → before ≡ Some old → contents old ≡ contents lsa → put_from before lsa ≡ []
no_put before old lsa is same =
    let told = bytes_same old lsa same in
    subst (λ (o : Option (List ℕ)). put_from o lsa ≡ []) (sym is) (rw told refl)

no_left : (own : RouterId) (taken : List Instance) (now : List (List ℕ)) (lsa o : List ℕ) → lsa_at now (key_of lsa) ≡ Some o → left_change own taken now lsa ≡ []
no_left own taken now lsa o is = rw is refl

pub nothing_changes : (own : RouterId) (taken : List Instance) (before now : List (List ℕ)) → IsListing before → IsListing now → map contents now ≡ map contents before → lsa_changes own taken before now ≡ []
nothing_changes own taken before now was is same =
    let puts : flat_map (put_change before) now ≡ [] = nothing_of (put_change before) now (λ lsa has.
    let o = there now before lsa was.rising same has in no_put (lsa_at before (key_of lsa)) o.0 lsa o.1 o.2) in
    let lefts : flat_map (left_change own taken now) before ≡ [] = nothing_of (left_change own taken now) before (λ lsa has.
    let o = there before now lsa is.rising (sym same) has in no_left own taken now lsa o.0 o.1) in
    rw puts lefts

-- ---- a step that took and issued nothing

pub none_brought : (out : OutputsValue) (db : List Held) (lsas : List (List ℕ)) → ListsBut out db lsas → out.taken ≡ [] → out.issued ≡ [] → (key : LsaKey) → AreListedAt db key lsas
none_brought out db lsas but taken issued key = elim (but key) [
  | inl touched ↦ absurd (by touched.0 touched.1)
  | inr was ↦ was
]
  where
    by : (i : Instance) → Brings out i → ⊥
    by i (Brings.Takes c) = Contains-nil i (subst (λ (is : List Instance). Contains is i) taken c)
    by i (Brings.Issues lsa c e) = Contains-nil lsa (subst (λ (ls : List (List ℕ)). Contains ls lsa) issued c)
