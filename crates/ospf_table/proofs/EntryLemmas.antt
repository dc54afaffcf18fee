-- LSAs in a map, and the listing of them.
use Rattle.std.proofs.Common.{◌≡◌, ◌<◌, ◌⊎◌, inl, inr, Bool, true, false, ℕ, zero, suc, List, [], ◌∷◌, ◌++◌, Option, None, Some, is_some, IsTrue, ◌↔◌, refl, ap, sym, ◌∙◌, subst, arith}
use Rattle.std.specs.List.{Any, AllByRecursion}
use Rattle.std.specs.List.Sorted.{IsStrictlySortedBy}
use Rattle.std.specs.Map.{lookup, keys_of, values_of}
use Rattle.std.specs.BTreeMap.{insert_entry, is_at}
use Rattle.std.specs.Ordering.{is_eq, match_ordering}
use Rattle.std.specs.declared.cmp.Ordering.{Ordering}
use Rattle.std.specs.declared.cmp.Ordering.TheVariants.{Less, Equal, Greater}
use Rattle.ospf_base.specs.Keys.{Precedes, same_key, key_cmp}
use Rattle.ospf_base.specs.declared.ids.LsaKey.{LsaKey}
use Rattle.ospf_base.proofs.SameKeys.{same_key-refl, same_key-eq}
use Rattle.ospf_lsa.specs.Header.{header_of}
use Rattle.ospf_lsa.specs.Lsa.{key_of}
use Rattle.ospf_lsa.specs.Listing.{HasKey, IsInserted}
use Rattle.ospf_base.proofs.KeyMaps.{is_eq-key_cmp, key_cmp-less}
use Rattle.hex.specs.Hex.{decode_of}
use Rattle.std.specs.Prelude.{◌≢◌, Ok}
use Rattle.ospf_base.specs.Constants.{max_age}
use Rattle.ospf_base.specs.Text.{IsBlank}
use Rattle.ospf_lsa.specs.Lsa.{IsLsa}
use Rattle.ospf_lsa.specs.declared.listing.ListingFault.{ListingFault}
use Rattle.ospf_lsa.specs.declared.listing.ListingFault.TheVariants as listing_fault
use Rattle.ospf_table.specs.Entries.{IsKeyedEntry, AreKeyed}
use Rattle.ospf_table.specs.Fault.{IsMemoryFault}
use Rattle.ospf_table.specs.Line.{HasLineFault, IsTaken, with_plain_age}
use Rattle.ospf_table.specs.declared.table.EntryFault.TheVariants.{Listing}

bool_cases : (b : Bool) → (b ≡ true) ⊎ (b ≡ false)
bool_cases true = inl refl
bool_cases false = inr refl

abbrev pub Entry : Type 0
Entry = LsaKey × List ℕ

-- what the map finds of a key
abbrev pub found : LsaKey → List Entry → Option (List ℕ)
found key es = lookup (is_at (key_cmp key)) es

any_later : {X : Type 0} (P : X → Type 0) (x : X) (xs : List X) → Any P xs → Any P (x ∷ xs)
any_later P x xs any = (suc any.0, any.1, omega (arith, any.2), any.3, any.4)

any_split : {X : Type 0} (P : X → Type 0) (x : X) (xs : List X) → Any P (x ∷ xs) → P x ⊎ Any P xs
any_split P x xs (zero, y, within, at, p) = inl (subst P (sym at) p)
any_split P x xs (suc k, y, within, at, p) = inr (k, y, omega (arith, within), at, p)

-- the map finds a key where an LSA of it is among its values
pub has_found : (key : LsaKey) (es : List Entry) → AreKeyed es → (lsa : List ℕ) → found key es ≡ Some lsa → HasKey (values_of es) key
has_found key [] keyed lsa is = absurd (cc)
has_found key (e ∷ es) keyed lsa is = elim (bool_cases (is_eq (key_cmp key e.0))) [
  | inl one ↦
      let same : key ≡ e.0 = same_key-eq key e.0 (sym (is_eq-key_cmp key e.0) ∙ one) in
      (0, e.1, omega arith, refl, keyed.0.key ∙ sym same)
  | inr two ↦ any_later (λ l. key_of l ≡ key) e.1 (values_of es) (has_found key es keyed.1 lsa (rw two at is))
]

-- so it finds none where there is none
pub none_found : (key : LsaKey) (es : List Entry) → AreKeyed es → (HasKey (values_of es) key → ⊥) → found key es ≡ None
none_found key es keyed none = by_found (found key es) refl
  where
    by_found : (o : Option (List ℕ)) → found key es ≡ o → o ≡ None
    by_found None is = refl
    by_found (Some lsa) is = absurd (none (has_found key es keyed lsa is))

-- and there is none where it finds none
pub not_found : (key : LsaKey) (es : List Entry) → AreKeyed es → found key es ≡ None → HasKey (values_of es) key → ⊥
not_found key [] keyed is has = absurd (omega (arith, has.2))
not_found key (e ∷ es) keyed is has = elim (bool_cases (is_eq (key_cmp key e.0))) [
  | inl one ↦ absurd (let now = rw one at is in cc)
  | inr two ↦ elim (any_split (λ l. key_of l ≡ key) e.1 (values_of es) has) [
    | inl here ↦
        let same : key ≡ e.0 = sym here ∙ keyed.0.key in
        let one : is_eq (key_cmp key e.0) ≡ true = is_eq-key_cmp key e.0 ∙ subst (λ (k : LsaKey). same_key key k ≡ true) same (same_key-refl key) in
        absurd (cc)
    | inr there ↦ not_found key es keyed.1 (rw two at is) there
  ]
]

-- what `contains_key` answers
pub finds : (key : LsaKey) (es : List Entry) → AreKeyed es → IsTrue (is_some (found key es)) ↔ HasKey (values_of es) key
finds key es keyed = by_found (found key es) refl
  where
    by_found : (o : Option (List ℕ)) → found key es ≡ o → IsTrue (is_some o) ↔ HasKey (values_of es) key
    by_found None is = ((λ is_not. absurd (cc)), (λ has. absurd (not_found key es keyed is has)))
    by_found (Some lsa) is = ((λ is_so. has_found key es keyed lsa is), (λ has. refl))

-- an LSA that is put in
pub put_in : (lsa : List ℕ) (es : List Entry) → found (key_of lsa) es ≡ None → IsInserted lsa (values_of es) (values_of (insert_entry key_cmp es (key_of lsa) lsa))
put_in lsa [] none = record { before = []; after = []; old_is = refl; new_is = refl }
put_in lsa (e ∷ es) none = by_order (key_cmp (key_of lsa) e.0) refl (put_in lsa es)
  where
    by_order : (o : Ordering) → key_cmp (key_of lsa) e.0 ≡ o
        → (found (key_of lsa) es ≡ None → IsInserted lsa (values_of es) (values_of (insert_entry key_cmp es (key_of lsa) lsa)))
        → IsInserted lsa (values_of (e ∷ es)) (values_of (match_ordering o ((key_of lsa, lsa) ∷ e ∷ es) ((e.0, lsa) ∷ es) (e ∷ insert_entry key_cmp es (key_of lsa) lsa)))
    by_order Less is more = record { before = []; after = values_of (e ∷ es); old_is = refl; new_is = refl }
    by_order Equal is more = absurd (let one : is_eq (key_cmp (key_of lsa) e.0) ≡ true = ap is_eq is in let now = rw one at none in cc)
    by_order Greater is more =
        let two : is_eq (key_cmp (key_of lsa) e.0) ≡ false = ap is_eq is in
        let rest = more (rw two at none) in
        record {
          before = e.1 ∷ rest.before;
          after = rest.after;
          old_is = ap (λ (ls : List (List ℕ)). e.1 ∷ ls) rest.old_is;
          new_is = ap (λ (ls : List (List ℕ)). e.1 ∷ ls) rest.new_is;
        }

pub keyed_in : (lsa : List ℕ) (es : List Entry) → AreKeyed es → IsKeyedEntry (key_of lsa, lsa) → AreKeyed (insert_entry key_cmp es (key_of lsa) lsa)
keyed_in lsa [] keyed new = (new, tt)
keyed_in lsa (e ∷ es) keyed new = by_order (key_cmp (key_of lsa) e.0) refl (keyed_in lsa es keyed.1 new)
  where
    by_order : (o : Ordering) → key_cmp (key_of lsa) e.0 ≡ o → AreKeyed (insert_entry key_cmp es (key_of lsa) lsa)
        → AreKeyed (match_ordering o ((key_of lsa, lsa) ∷ e ∷ es) ((e.0, lsa) ∷ es) (e ∷ insert_entry key_cmp es (key_of lsa) lsa))
    by_order Less is more = (new, keyed)
    by_order Equal is more =
        let same : key_of lsa ≡ e.0 = same_key-eq (key_of lsa) e.0 (sym (is_eq-key_cmp (key_of lsa) e.0) ∙ ap is_eq is) in
        (subst (λ (k : LsaKey). IsKeyedEntry (k, lsa)) same new, keyed.1)
    by_order Greater is more = (keyed.0, more)

rises_here : (k : LsaKey) (ks : List LsaKey) → IsStrictlySortedBy key_cmp (k ∷ ks) → AllByRecursion (λ y. key_cmp k y ≡ Less) ks
unfolding IsStrictlySortedBy
rises_here k ks r = r.0

rises_behind : (k : LsaKey) (ks : List LsaKey) → IsStrictlySortedBy key_cmp (k ∷ ks) → IsStrictlySortedBy key_cmp ks
unfolding IsStrictlySortedBy
rises_behind k ks r = r.1

-- a key that stands before those of the entries stands before that of each value
stands_before : (k : LsaKey) (es : List Entry) → AllByRecursion (λ y. key_cmp k y ≡ Less) (keys_of es) → AreKeyed es
    → (done : List (List ℕ)) (lsa : List ℕ) (rest : List (List ℕ)) → values_of es ≡ done ++ lsa ∷ rest → Precedes k (key_of lsa)
stands_before k [] less keyed [] lsa rest is = absurd (cc)
stands_before k [] less keyed (d ∷ ds) lsa rest is = absurd (cc)
stands_before k (e ∷ es) less keyed [] lsa rest is =
    let this : e.1 ≡ lsa = cc in
    subst (λ (q : LsaKey). Precedes k q) (sym keyed.0.key ∙ ap key_of this) (key_cmp-less k e.0 less.0)
stands_before k (e ∷ es) less keyed (d ∷ ds) lsa rest is =
    let left : values_of es ≡ ds ++ lsa ∷ rest = cc in
    stands_before k es less.1 keyed.1 ds lsa rest left

-- of the values in order, those in front of one have keys that stand before its key
pub before_it : (es : List Entry) → AreKeyed es → IsStrictlySortedBy key_cmp (keys_of es) → (done : List (List ℕ)) (lsa : List ℕ) (rest : List (List ℕ)) → values_of es ≡ done ++ lsa ∷ rest
    → AllByRecursion (λ l. Precedes (key_of l) (key_of lsa)) done
before_it es keyed rises [] lsa rest is = tt
before_it [] keyed rises (d ∷ ds) lsa rest is = absurd (cc)
before_it (e ∷ es) keyed rises (d ∷ ds) lsa rest is =
    let first : e.1 ≡ d = cc in
    let left : values_of es ≡ ds ++ lsa ∷ rest = cc in
    let less = stands_before e.0 es (rises_here e.0 (keys_of es) rises) keyed.1 ds lsa rest left in
    (subst (λ (k : LsaKey). Precedes k (key_of lsa)) (sym keyed.0.key ∙ ap key_of first) less, before_it es keyed.1 (rises_behind e.0 (keys_of es) rises) ds lsa rest left)

-- each of the values is below MaxAge
pub young_it : (es : List Entry) → AreKeyed es → (done : List (List ℕ)) (lsa : List ℕ) (rest : List (List ℕ)) → values_of es ≡ done ++ lsa ∷ rest → (header_of lsa).age < 3600
young_it [] keyed [] lsa rest is = absurd (cc)
young_it [] keyed (d ∷ ds) lsa rest is = absurd (cc)
young_it (e ∷ es) keyed [] lsa rest is = let this : e.1 ≡ lsa = cc in subst (λ (l : List ℕ). (header_of l).age < 3600) this keyed.0.young
young_it (e ∷ es) keyed (d ∷ ds) lsa rest is = let left : values_of es ≡ ds ++ lsa ∷ rest = cc in young_it es keyed.1 ds lsa rest left

-- ---- an LSA of a line

-- the line spells this LSA, which is below MaxAge at its plain age
pub record IsYoungLine (text spelled lsa : List ℕ) : Type 0 where
  pub not_blank : IsBlank text → ⊥
  pub decoded : (decode_of text ≡ Ok spelled) × IsLsa spelled
  pub lsa_is : lsa ≡ with_plain_age spelled
  pub young : (header_of lsa).age ≢ max_age

-- it is put in
pub line_listed : (text spelled lsa : List ℕ) (old new : List (List ℕ)) → IsYoungLine text spelled lsa → (HasKey old (key_of lsa) → ⊥) → IsInserted lsa old new
    → IsTaken text old new
line_listed text spelled lsa old new line absent put = inr (
  line.not_blank,
  record {
    spelled = spelled;
    decoded = line.decoded.0;
    is_lsa = line.decoded.1;
    lsa = lsa;
    lsa_is = line.lsa_is;
    new_is = inr (line.young, absent, put);
  },
)

-- or refused
pub line_refused : (text spelled lsa : List ℕ) (old : List (List ℕ)) (f : ListingFault) → IsYoungLine text spelled lsa → (f ≡ listing_fault.Twice → HasKey old (key_of lsa))
    → (f ≡ listing_fault.MaxAge → (header_of lsa).age ≡ max_age) → IsMemoryFault (Listing f) ⊎ HasLineFault text old (Listing f)
line_refused text spelled lsa old listing_fault.Twice line twice aged = inr (
  line.not_blank,
  (
    refl,
    record {
      spelled = spelled;
      decoded = line.decoded.0;
      is_lsa = line.decoded.1;
      lsa = lsa;
      lsa_is = line.lsa_is;
      young = line.young;
      listed = twice refl;
    },
  ),
)
line_refused text spelled lsa old listing_fault.MaxAge line twice aged = absurd (line.young (aged refl))
line_refused text spelled lsa old listing_fault.Memory line twice aged = inl tt
