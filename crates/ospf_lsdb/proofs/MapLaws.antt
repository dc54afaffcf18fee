-- The laws on databases.
use Rattle.std.proofs.Common.{◌≡◌, inl, inr, nat_lt, false, List, [], ◌∷◌, refl, ap, sym, ◌∙◌, subst, Option, None, Some, option_map}
use Rattle.ospf_base.specs.declared.ids.LsaKey.{LsaKey}
use Rattle.ospf_base.specs.Keys.{Precedes, same_key}
use Rattle.ospf_base.proofs.KeyOrder.{Precedes-cases}
use Rattle.ospf_lsdb.specs.Database.{Entry, Held, key_at, key_in, held_of, aged, older}
use Rattle.ospf_lsdb.proofs.Words.{AreKeysRising}
use Rattle.ospf_lsdb.specs.Laws.{InstallsOne, TickAgesAll, OneDatabaseOfAMap}
use Rattle.ospf_lsdb.proofs.MapLemmas.{bool_cases, after-none}
use Rattle.ospf_base.proofs.SameKeys.{same_key-eq, same_key-refl}
use Rattle.ospf_lsdb.proofs.RisingLemmas.{all_after-trans}

pub installs : InstallsOne
installs e before after puts key = ap (λ (o : Option Held). option_map (λ h. h.entry) o) (puts key) ∙ elim (bool_cases (same_key (key_in e.contents) key)) [
  | inl one ↦ rw one refl
  | inr two ↦ rw two refl
]

aged-older : (h : Held) → (older h).entry ≡ aged h.entry
unfolding older aged
aged-older h = elim (bool_cases (nat_lt h.entry.age 3600)) [ inl one ↦ rw one refl | inr two ↦ rw two refl ]

aged_option : (o : Option Held) → option_map (λ h. h.entry) (option_map older o) ≡ option_map aged (option_map (λ h. h.entry) o)
aged_option None = refl
aged_option (Some h) = ap (λ (e : Entry). Some e) (aged-older h)

pub ages : TickAgesAll
ages before after risen key = ap (λ (o : Option Held). option_map (λ h. h.entry) o) (risen key) ∙ aged_option (held_of before key)

-- a rising list has its first entry, and none of a lesser key
first_of : (h : Held) (hs : List Held) → held_of (h ∷ hs) (key_at h) ≡ Some h
first_of h hs = let is = same_key-refl (key_at h) in rw is refl

none_before : (k : LsaKey) (h : Held) (hs : List Held) → AreKeysRising (h ∷ hs) → Precedes k (key_at h) → held_of (h ∷ hs) k ≡ None
none_before k h hs rises lt = after-none k (h ∷ hs) (lt, all_after-trans k (key_at h) hs lt rises.0)

same_lists : (a b : List Held) → AreKeysRising a → AreKeysRising b → ((key : LsaKey) → held_of a key ≡ held_of b key) → a ≡ b
same_lists [] [] ra rb same = refl
same_lists [] (y ∷ ys) ra rb same = absurd (let e = same (key_at y) in let f = first_of y ys in cc)
same_lists (x ∷ xs) [] ra rb same = absurd (let e = same (key_at x) in let f = first_of x xs in cc)
same_lists (x ∷ xs) (y ∷ ys) ra rb same = elim (Precedes-cases (key_at x) (key_at y)) [
  | inl key ↦
      let here : held_of (y ∷ ys) (key_at x) ≡ Some y = subst (λ (k : LsaKey). held_of (y ∷ ys) k ≡ Some y) (sym key) (first_of y ys) in
      let head : x ≡ y = some_is x y (sym (first_of x xs) ∙ same (key_at x) ∙ here) in
      let tail : xs ≡ ys = same_lists xs ys ra.1 rb.1 (rest key) in
      ap (λ (h : Held). h ∷ xs) head ∙ ap (λ (t : List Held). y ∷ t) tail
  | inr far ↦ elim far [
    | inl less ↦ absurd (let e = same (key_at x) in let f = first_of x xs in let g = none_before (key_at x) y ys rb less in cc)
    | inr more ↦ absurd (let e = same (key_at y) in let f = first_of y ys in let g = none_before (key_at y) x xs ra more in cc)
  ]
]
  where
    some_is : (p q : Held) → Some p ≡ Some q → p ≡ q
    some_is p q e = cc

    rest : key_at x ≡ key_at y → (k : LsaKey) → held_of xs k ≡ held_of ys k
    rest key k = elim (bool_cases (same_key (key_at x) k)) [
      | inl one ↦
          let e = same_key-eq (key_at x) k one in
          let p : held_of xs k ≡ None = subst (λ (q : LsaKey). held_of xs q ≡ None) e (after-none (key_at x) xs ra.0) in
          let q : held_of ys k ≡ None = subst (λ (q : LsaKey). held_of ys q ≡ None) (sym key ∙ e) (after-none (key_at y) ys rb.0) in
          p ∙ sym q
      | inr two ↦
          let two_y : same_key (key_at y) k ≡ false = subst (λ (q : LsaKey). same_key q k ≡ false) key two in
          let left : held_of (x ∷ xs) k ≡ held_of xs k = rw two refl in
          let right : held_of (y ∷ ys) k ≡ held_of ys k = rw two_y refl in
          sym left ∙ same k ∙ right
    ]

pub one_database : OneDatabaseOfAMap
one_database a b da db same = same_lists a b da.rising db.rising same
