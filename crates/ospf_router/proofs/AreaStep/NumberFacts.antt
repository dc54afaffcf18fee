-- Kept numbers once a number was counted.
use Rattle.std.proofs.Common.{◌≡◌, ◌||◌, ◌++◌, ℤ, Bool, true, false, cond, List, [], ◌∷◌, map, find, Option, None, Some, refl, sym, ap, subst, ◌∙◌, arith}
use Rattle.std.specs.Prelude.{◌≤ℤ◌}
use Rattle.std.specs.Int.{int_max}
use Rattle.std.specs.List.{list_any}
use Rattle.std.specs.Option.{option_map}
use Rattle.std.proofs.lemmas.Bool.{false≢true, cond-true, eq-eqb}
use Rattle.std.proofs.lemmas.Int.{ints, clamps}
use Rattle.ospf_base.specs.declared.ids.LsaKey.{LsaKey}
use Rattle.ospf_base.specs.Keys.{same_key}
use Rattle.ospf_base.proofs.SameKeys.{same_key-refl}
use Rattle.ospf_area.specs.Numbers.{is_own, counts}
use Rattle.ospf_area.specs.State.{AreaValue, numbering_of, kept_number}
use Rattle.ospf_area.proofs.Words.{kept_in, counted, counted_one, is_numbering_of}
use Rattle.ospf_area.specs.declared.state.Numbering.{Numbering}
use Rattle.ospf_router.proofs.AreaStep.StateFacts.{find-map}

-- found in the first list, or else in the second
unfoldable pub first_found : {X : Type 0} → Option X → Option X → Option X
first_found None o = o
first_found (Some x) o = Some x

pub find-append : {X : Type 0} (p : X → Bool) (xs ys : List X) → find p (xs ++ ys) ≡ first_found (find p xs) (find p ys)
unfolding first_found
find-append p [] ys = refl
find-append p (x ∷ xs) ys = go (p x) (find-append p xs ys)
  where
    go : (b : Bool) → find p (xs ++ ys) ≡ first_found (find p xs) (find p ys) → cond b (Some x) (find p (xs ++ ys)) ≡ first_found (cond b (Some x) (find p xs)) (find p ys)
    go true e = refl
    go false e = e

pub any_found : {X : Type 0} (p : X → Bool) (xs : List X) → list_any p xs ≡ true → (x : X) × (find p xs ≡ Some x) × (p x ≡ true)
any_found p [] e = absurd (false≢true e)
any_found p (x ∷ xs) e = go (p x) refl e (any_found p xs)
  where
    go : (b : Bool) → p x ≡ b → b || list_any p xs ≡ true → (list_any p xs ≡ true → (y : _) × (find p xs ≡ Some y) × (p y ≡ true)) → (y : _) × (cond b (Some x) (find p xs) ≡ Some y) × (p y ≡ true)
    go true is e rec = (x, refl, is)
    go false is e rec = rec e

pub none_found : {X : Type 0} (p : X → Bool) (xs : List X) → list_any p xs ≡ false → find p xs ≡ None
none_found p [] e = refl
none_found p (x ∷ xs) e = go (p x) e (none_found p xs)
  where
    go : (b : Bool) → b || list_any p xs ≡ false → (list_any p xs ≡ false → find p xs ≡ None) → cond b (Some x) (find p xs) ≡ None
    go true e rec = absurd (false≢true (sym e))
    go false e rec = rec e

one-key : (key : LsaKey) (number : ℤ) (n : Numbering) → (counted_one key number n).key ≡ n.key
one-key key number n = go (is_numbering_of key n)
  where
    go : (b : Bool) → (cond b (record n { kept = int_max n.kept number }) n).key ≡ n.key
    go true = refl
    go false = refl

one-more : (key : LsaKey) (number : ℤ) (n : Numbering) → n.kept ≤ℤ (counted_one key number n).kept
one-more key number n = go (is_numbering_of key n)
  where
    go : (b : Bool) → n.kept ≤ℤ (cond b (record n { kept = int_max n.kept number }) n).kept
    go true = omega (arith, ints, clamps)
    go false = omega (arith, ints)

one-known : (key : LsaKey) (number : ℤ) (n : Numbering) → is_numbering_of key n ≡ true → number ≤ℤ (counted_one key number n).kept
one-known key number n is = subst (λ m. number ≤ℤ m.kept) (sym (cond-true (is_numbering_of key n) (record n { kept = int_max n.kept number }) n is)) (omega (arith, ints, clamps))

mapped : (key : LsaKey) (number : ℤ) (ns : List Numbering) (k : LsaKey) → numbering_of (map (counted_one key number) ns) k ≡ option_map (counted_one key number) (numbering_of ns k)
mapped key number ns k = find-map (λ n. same_key n.key k) (counted_one key number) ns (λ n. ap (λ key. same_key key k) (one-key key number n))

abbrev new_one : LsaKey → ℤ → ℤ → Numbering
new_one key number floor = record { key = key; kept = int_max floor number; issued_at = None }

pub counted-kept : (key : LsaKey) (number floor : ℤ) (ns : List Numbering) (k : LsaKey) → kept_in floor (numbering_of ns k) ≤ℤ kept_in floor (numbering_of (counted key number floor ns) k)
unfolding first_found
counted-kept key number floor ns k = go (list_any (is_numbering_of key) ns)
  where
    in_map : (o : Option Numbering) → kept_in floor o ≤ℤ kept_in floor (option_map (counted_one key number) o)
    in_map None = omega (arith, ints)
    in_map (Some n) = one-more key number n

    in_new : (b : Bool) → floor ≤ℤ kept_in floor (cond b (Some (new_one key number floor)) None)
    in_new true = omega (arith, ints, clamps)
    in_new false = omega (arith, ints)

    in_more : (o : Option Numbering) → kept_in floor o ≤ℤ kept_in floor (first_found o (find (λ n. same_key n.key k) (new_one key number floor ∷ [])))
    in_more None = in_new (same_key key k)
    in_more (Some n) = omega (arith, ints)

    go : (b : Bool) → kept_in floor (numbering_of ns k) ≤ℤ kept_in floor (numbering_of (cond b (map (counted_one key number) ns) (ns ++ new_one key number floor ∷ [])) k)
    go true = subst (λ o. kept_in floor (numbering_of ns k) ≤ℤ kept_in floor o) (sym (mapped key number ns k)) (in_map (numbering_of ns k))
    go false = subst (λ o. kept_in floor (numbering_of ns k) ≤ℤ kept_in floor o) (sym (find-append (λ n. same_key n.key k) ns (new_one key number floor ∷ []))) (in_more (numbering_of ns k))

pub counted-known : (key : LsaKey) (number floor : ℤ) (ns : List Numbering) → number ≤ℤ kept_in floor (numbering_of (counted key number floor ns) key)
unfolding first_found
counted-known key number floor ns = go (list_any (is_numbering_of key) ns) refl
  where
    go : (b : Bool) → list_any (is_numbering_of key) ns ≡ b → number ≤ℤ kept_in floor (numbering_of (cond b (map (counted_one key number) ns) (ns ++ new_one key number floor ∷ [])) key)
    go true any =
        let (n, found, is) = any_found (is_numbering_of key) ns any in
        subst (λ o. number ≤ℤ kept_in floor o) (sym (mapped key number ns key ∙ ap (option_map (counted_one key number)) found)) (one-known key number n is)
    go false none =
        let here : find (λ n. same_key n.key key) (new_one key number floor ∷ []) ≡ Some (new_one key number floor) = cond-true (same_key key key) _ _ (same_key-refl key) in
        subst (λ o. number ≤ℤ kept_in floor o)
        (sym (find-append (λ n. same_key n.key key) ns (new_one key number floor ∷ []) ∙ (ap (λ o. first_found o (find (λ n. same_key n.key key) (new_one key number floor ∷ []))) (none_found (is_numbering_of key) ns none) ∙ here)))
        (omega (arith, ints, clamps))

-- the router's numbers once an LSA was installed
pub counts-kept : (key : LsaKey) (number : ℤ) (s : AreaValue) (k : LsaKey) → kept_number s k ≤ℤ kept_in s.floor (numbering_of (counts key number s) k)
counts-kept key number s k = go (is_own s.router key)
  where
    go : (b : Bool) → kept_number s k ≤ℤ kept_in s.floor (numbering_of (cond b (counted key number s.floor s.numbering) s.numbering) k)
    go true = counted-kept key number s.floor s.numbering k
    go false = omega (arith, ints)

pub counts-known : (key : LsaKey) (number : ℤ) (s : AreaValue) → key.router ≡ s.router → number ≤ℤ kept_in s.floor (numbering_of (counts key number s) key)
counts-known key number s own = go (is_own s.router key) (eq-eqb key.router.0 s.router.0 (ap (λ r. r.0) own))
  where
    go : (b : Bool) → b ≡ true → number ≤ℤ kept_in s.floor (numbering_of (cond b (counted key number s.floor s.numbering) s.numbering) key)
    go true e = counted-known key number s.floor s.numbering
    go false e = absurd (false≢true e)
