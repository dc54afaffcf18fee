-- The numbers of keys, as a map.
use Rattle.std.proofs.Common.{◌≡◌, ◌&&◌, ◌||◌, ◌++◌, ℕ, ℤ, Bool, true, false, List, [], ◌∷◌, map, Option, None, Some, option_map, is_some, refl, sym, ap, subst, ◌∙◌, if◌then◌else◌}
use Rattle.std.specs.Int.{int_max}
use Rattle.std.specs.List.{list_any}
use Rattle.ospf_base.proofs.SameKeys.{same_key-eq, same_key-turned}
use Rattle.ospf_base.specs.Keys.{same_key}
use Rattle.ospf_base.specs.declared.ids.LsaKey.{LsaKey}
use Rattle.ospf_area.proofs.LawLemmas.{find-map}
use Rattle.ospf_area.specs.State.{numbering_of}
use Rattle.ospf_area.proofs.Words.{kept_in, counted, counted_one, is_numbering_of}
use Rattle.ospf_area.specs.declared.state.Numbering.{Numbering}
use Rattle.ospf_area.specs.Updates.Removal.{lowest_number, reset}
use Rattle.ospf_area.proofs.Updates.Words.{reset_one}
use Rattle.ospf_originate.specs.Numbers.{issued}
use Rattle.ospf_originate.proofs.Words.{issued_one, issued_at_in}
use Rattle.ospf_area.proofs.NumberLemmas.{counted_key, found_of}

-- ---- one that is changed, or put at the end where there is none

found_first : (k : LsaKey) (n : Numbering) (ns : List Numbering) → same_key n.key k ≡ true → numbering_of (n ∷ ns) k ≡ Some n
found_first k n ns is = ap (λ (b : Bool). if b then Some n else numbering_of ns k) is

found_later : (k : LsaKey) (n : Numbering) (ns : List Numbering) → same_key n.key k ≡ false → numbering_of (n ∷ ns) k ≡ numbering_of ns k
found_later k n ns apart = ap (λ (b : Bool). if b then Some n else numbering_of ns k) apart

behind : (k : LsaKey) (ns : List Numbering) (n : Numbering) → is_some (numbering_of (ns ++ n ∷ []) k) ≡ (is_some (numbering_of ns k) || same_key n.key k)
behind k [] n = by_test (same_key n.key k)
  where
    by_test : (b : Bool) → is_some (if b then Some n else None) ≡ (false || b)
    by_test true = refl
    by_test false = refl
behind k (x ∷ ns) n = by_test (same_key x.key k) (behind k ns n)
  where
    by_test : (b : Bool) → is_some (numbering_of (ns ++ n ∷ []) k) ≡ (is_some (numbering_of ns k) || same_key n.key k)
        → is_some (if b then Some x else numbering_of (ns ++ n ∷ []) k) ≡ (is_some (if b then Some x else numbering_of ns k) || same_key n.key k)
    by_test true rest = refl
    by_test false rest = rest

pub mapped : (g : Numbering → Numbering) → ((n : Numbering) → (g n).key ≡ n.key) → (k : LsaKey) (ns : List Numbering) → numbering_of (map g ns) k ≡ option_map g (numbering_of ns k)
mapped g same k ns = find-map (λ (n : Numbering). same_key n.key k) g (λ n. ap (λ (j : LsaKey). same_key j k) (same n)) ns

is_some-map : (g : Numbering → Numbering) (o : Option Numbering) → is_some (option_map g o) ≡ is_some o
is_some-map g None = refl
is_some-map g (Some n) = refl

any_found : (key : LsaKey) (ns : List Numbering) → list_any (is_numbering_of key) ns ≡ is_some (numbering_of ns key)
any_found key [] = refl
any_found key (x ∷ ns) = by_test (same_key x.key key) (any_found key ns)
  where
    by_test : (b : Bool) → list_any (is_numbering_of key) ns ≡ is_some (numbering_of ns key) → (b || list_any (is_numbering_of key) ns) ≡ is_some (if b then Some x else numbering_of ns key)
    by_test true rest = refl
    by_test false rest = rest

-- the numbers with one put in
put : (Numbering → Numbering) → Numbering → List Numbering → List Numbering
put g new ns = if list_any (is_numbering_of new.key) ns then map g ns else ns ++ new ∷ []

module _ (g : Numbering → Numbering) (same : (n : Numbering) → (g n).key ≡ n.key) (new : Numbering) (ns : List Numbering) where
  -- what was numbered is, and so is the key
  put_some : (k : LsaKey) → is_some (numbering_of (put g new ns) k) ≡ (is_some (numbering_of ns k) || same_key new.key k)
  unfolding put
  put_some k = by_test (list_any (is_numbering_of new.key) ns) (any_found new.key ns)
    where
      here : (b : Bool) → same_key new.key k ≡ b → true ≡ is_some (numbering_of ns new.key) → is_some (numbering_of ns k) ≡ (is_some (numbering_of ns k) || b)
      here true e found =
          let there : is_some (numbering_of ns k) ≡ true = subst (λ (j : LsaKey). is_some (numbering_of ns j) ≡ true) (same_key-eq new.key k e) (sym found) in
          there ∙ sym (ap (λ (b : Bool). b || true) there)
      here false e found = or_false (is_some (numbering_of ns k))
        where
          or_false : (a : Bool) → a ≡ (a || false)
          or_false true = refl
          or_false false = refl

      by_test : (b : Bool) → b ≡ is_some (numbering_of ns new.key) → is_some (numbering_of (if b then map g ns else ns ++ new ∷ []) k) ≡ (is_some (numbering_of ns k) || same_key new.key k)
      by_test true found = ap (λ (o : Option Numbering). is_some o) (mapped g same k ns) ∙ is_some-map g (numbering_of ns k) ∙ here (same_key new.key k) refl found
      by_test false found = behind k ns new

-- ---- numbers that are counted

pub counted_some : (key : LsaKey) (number floor : ℤ) (ns : List Numbering) (k : LsaKey) → is_some (numbering_of (counted key number floor ns) k) ≡ (is_some (numbering_of ns k) || same_key key k)
unfolding put
counted_some key number floor ns k = put_some (counted_one key number) (counted_key key number) (record { key = key; kept = int_max floor number; issued_at = None }) ns k

-- ---- numbers that begin again

reset_key : (key : LsaKey) (n : Numbering) → (reset_one key n).key ≡ n.key
reset_key key n = by_test (is_numbering_of key n)
  where
    by_test : (b : Bool) → (if b then record n { kept = lowest_number } else n).key ≡ n.key
    by_test true = refl
    by_test false = refl

pub reset_some : (key : LsaKey) (ns : List Numbering) (k : LsaKey) → is_some (numbering_of (reset key ns) k) ≡ (is_some (numbering_of ns k) || same_key key k)
unfolding put
reset_some key ns k = put_some (reset_one key) (reset_key key) (record { key = key; kept = lowest_number; issued_at = None }) ns k

-- where one of another key stands at the end, each key has what it had
other_behind : (k : LsaKey) (ns : List Numbering) (n : Numbering) → same_key n.key k ≡ false → numbering_of (ns ++ n ∷ []) k ≡ numbering_of ns k
other_behind k [] n apart = found_later k n [] apart
other_behind k (x ∷ ns) n apart = ap (λ (o : Option Numbering). if same_key x.key k then Some x else o) (other_behind k ns n apart)

new_behind : (k : LsaKey) (ns : List Numbering) (n : Numbering) → is_some (numbering_of ns k) ≡ false → same_key n.key k ≡ true → numbering_of (ns ++ n ∷ []) k ≡ Some n
new_behind k [] n none is = found_first k n [] is
new_behind k (x ∷ ns) n none is = by_test (same_key x.key k) (new_behind k ns n) none
  where
    by_test : (b : Bool) → (is_some (numbering_of ns k) ≡ false → same_key n.key k ≡ true → numbering_of (ns ++ n ∷ []) k ≡ Some n)
        → is_some (if b then Some x else numbering_of ns k) ≡ false → (if b then Some x else numbering_of (ns ++ n ∷ []) k) ≡ Some n
    by_test true rest e = absurd (cc)
    by_test false rest e = rest e is

-- the number of the key is the lowest, and those of others stay
pub reset_kept : (floor : ℤ) (key : LsaKey) (ns : List Numbering) (k : LsaKey)
    → kept_in floor (numbering_of (reset key ns) k) ≡ (if same_key key k then lowest_number else kept_in floor (numbering_of ns k))
reset_kept floor key ns k = by_test (list_any (is_numbering_of key) ns) (any_found key ns)
  where
    new : Numbering
    new = record { key = key; kept = lowest_number; issued_at = None }

    changed : (o : Option Numbering) → numbering_of ns k ≡ o → true ≡ is_some (numbering_of ns key) → kept_in floor (option_map (reset_one key) o) ≡ (if same_key key k then lowest_number else kept_in floor o)
    changed None e found = none_here (same_key key k) refl
      where
        none_here : (b : Bool) → same_key key k ≡ b → floor ≡ (if b then lowest_number else floor)
        none_here false t = refl
        none_here true t =
            absurd (let there : true ≡ is_some (numbering_of ns k) = subst (λ (j : LsaKey). true ≡ is_some (numbering_of ns j)) (same_key-eq key k t) found in
            let gone : is_some (numbering_of ns k) ≡ false = ap (λ (o : Option Numbering). is_some o) e in cc)
    changed (Some n) e found =
        ap (λ (b : Bool). (if b then record n { kept = lowest_number } else n).kept) same ∙ picked (same_key key k)
      where
        of_k : n.key ≡ k
        of_k = same_key-eq n.key k (found_of k ns n e)

        same : same_key n.key key ≡ same_key key k
        same = ap (λ (j : LsaKey). same_key j key) of_k ∙ same_key-turned k key

        picked : (b : Bool) → (if b then record n { kept = lowest_number } else n).kept ≡ (if b then lowest_number else n.kept)
        picked true = refl
        picked false = refl

    pushed : (b : Bool) → same_key key k ≡ b → false ≡ is_some (numbering_of ns key) → kept_in floor (numbering_of (ns ++ new ∷ []) k) ≡ (if b then lowest_number else kept_in floor (numbering_of ns k))
    pushed true t none =
        ap (λ (o : Option Numbering). kept_in floor o) (new_behind k ns new (subst (λ (j : LsaKey). is_some (numbering_of ns j) ≡ false) (same_key-eq key k t) (sym none)) t)
    pushed false t none = ap (λ (o : Option Numbering). kept_in floor o) (other_behind k ns new t)

    by_test : (b : Bool) → b ≡ is_some (numbering_of ns key) → kept_in floor (numbering_of (if b then map (reset_one key) ns else ns ++ new ∷ []) k) ≡ (if same_key key k then lowest_number else kept_in floor (numbering_of ns k))
    by_test true found = ap (λ (o : Option Numbering). kept_in floor o) (mapped (reset_one key) (reset_key key) k ns) ∙ changed (numbering_of ns k) refl found
    by_test false found = pushed (same_key key k) refl found

-- ---- an issue

issued_key : (key : LsaKey) (tick : ℕ) (n : Numbering) → (issued_one key tick n).key ≡ n.key
issued_key key tick n = by_test (is_numbering_of key n)
  where
    by_test : (b : Bool) → (if b then record n { issued_at = Some tick } else n).key ≡ n.key
    by_test true = refl
    by_test false = refl

issued_found : (key : LsaKey) (tick : ℕ) (ns : List Numbering) (k : LsaKey) → numbering_of (issued key tick ns) k ≡ option_map (issued_one key tick) (numbering_of ns k)
issued_found key tick ns k = mapped (issued_one key tick) (issued_key key tick) k ns

pub issued_some : (key : LsaKey) (tick : ℕ) (ns : List Numbering) (k : LsaKey) → is_some (numbering_of (issued key tick ns) k) ≡ is_some (numbering_of ns k)
issued_some key tick ns k = ap (λ (o : Option Numbering). is_some o) (issued_found key tick ns k) ∙ is_some-map (issued_one key tick) (numbering_of ns k)

-- the number stays
pub issued_kept : (floor : ℤ) (key : LsaKey) (tick : ℕ) (ns : List Numbering) (k : LsaKey) → kept_in floor (numbering_of (issued key tick ns) k) ≡ kept_in floor (numbering_of ns k)
issued_kept floor key tick ns k = ap (λ (o : Option Numbering). kept_in floor o) (issued_found key tick ns k) ∙ by_found (numbering_of ns k)
  where
    by_found : (o : Option Numbering) → kept_in floor (option_map (issued_one key tick) o) ≡ kept_in floor o
    by_found None = refl
    by_found (Some n) = by_test (is_numbering_of key n)
      where
        by_test : (b : Bool) → (if b then record n { issued_at = Some tick } else n).kept ≡ n.kept
        by_test true = refl
        by_test false = refl

-- the tick is the key's, if it is numbered
pub issued_at : (key : LsaKey) (tick : ℕ) (ns : List Numbering) (k : LsaKey)
    → issued_at_in (numbering_of (issued key tick ns) k) ≡ (if same_key key k && is_some (numbering_of ns k) then Some tick else issued_at_in (numbering_of ns k))
issued_at key tick ns k = ap issued_at_in (issued_found key tick ns k) ∙ by_found (numbering_of ns k) refl
  where
    by_found : (o : Option Numbering) → numbering_of ns k ≡ o → issued_at_in (option_map (issued_one key tick) o) ≡ (if same_key key k && is_some o then Some tick else issued_at_in o)
    by_found None e = none (same_key key k)
      where
        none : (b : Bool) → None ≡ (if b && false then Some tick else None)
        none true = refl
        none false = refl
    by_found (Some n) e =
        ap (λ (b : Bool). (if b then record n { issued_at = Some tick } else n).issued_at) (ap (λ (j : LsaKey). same_key j key) (same_key-eq n.key k (found_of k ns n e)) ∙ same_key-turned k key)
        ∙ picked (same_key key k)
      where
        picked : (b : Bool) → (if b then record n { issued_at = Some tick } else n).issued_at ≡ (if b && true then Some tick else n.issued_at)
        picked true = refl
        picked false = refl

-- a count leaves the tick of each key
pub counted_at : (key : LsaKey) (number floor : ℤ) (ns : List Numbering) (k : LsaKey) → issued_at_in (numbering_of (counted key number floor ns) k) ≡ issued_at_in (numbering_of ns k)
counted_at key number floor ns k = by_test (list_any (is_numbering_of key) ns) (any_found key ns)
  where
    new : Numbering
    new = record { key = key; kept = int_max floor number; issued_at = None }

    changed : (o : Option Numbering) → issued_at_in (option_map (counted_one key number) o) ≡ issued_at_in o
    changed None = refl
    changed (Some n) = picked (is_numbering_of key n)
      where
        picked : (b : Bool) → (if b then record n { kept = int_max n.kept number } else n).issued_at ≡ n.issued_at
        picked true = refl
        picked false = refl

    none_is : (o : Option Numbering) → is_some o ≡ false → None ≡ issued_at_in o
    none_is None e = refl
    none_is (Some n) e = absurd (cc)

    pushed : (b : Bool) → same_key key k ≡ b → false ≡ is_some (numbering_of ns key) → issued_at_in (numbering_of (ns ++ new ∷ []) k) ≡ issued_at_in (numbering_of ns k)
    pushed true t none =
        let gone : is_some (numbering_of ns k) ≡ false = subst (λ (j : LsaKey). is_some (numbering_of ns j) ≡ false) (same_key-eq key k t) (sym none) in
        ap issued_at_in (new_behind k ns new gone t) ∙ none_is (numbering_of ns k) gone
    pushed false t none = ap issued_at_in (other_behind k ns new t)

    by_test : (b : Bool) → b ≡ is_some (numbering_of ns key) → issued_at_in (numbering_of (if b then map (counted_one key number) ns else ns ++ new ∷ []) k) ≡ issued_at_in (numbering_of ns k)
    by_test true found = ap issued_at_in (mapped (counted_one key number) (counted_key key number) k ns) ∙ changed (numbering_of ns k)
    by_test false found = pushed (same_key key k) refl found
