-- Keys and instances that are told to be one are equal.
use Rattle.std.proofs.Common.{◌≡◌, ◌⊎◌, ◌&&◌, ◌==◌, ℕ, ℤ, Bool, true, false, inl, inr, refl, subst, arith}
use Rattle.std.specs.Ordering.{int_eq}
use Rattle.std.proofs.lemmas.Bool.{false≢true, eqb-true, eq-eqb}
use Rattle.std.proofs.lemmas.Bool.Decides.{Decides-int_eq}
use Rattle.ospf_base.specs.Instances.{same_instance}
use Rattle.ospf_base.specs.Keys.{Precedes, same_key}
use Rattle.ospf_base.specs.declared.ids.Instance.{Instance}
use Rattle.ospf_base.specs.declared.ids.LsaKey.{LsaKey}
use Rattle.ospf_base.proofs.KeyOrder.{Precedes-cases}

pub same_key-refl : (a : LsaKey) → same_key a a ≡ true
unfolding same_key
same_key-refl a = grind arith

-- a key is no other
pub same_key-apart : (a b : LsaKey) → Precedes a b → same_key a b ≡ false
unfolding same_key
same_key-apart a b (inl p) = grind arith
same_key-apart a b (inr (k, inl p)) = grind arith
same_key-apart a b (inr (k, inr p)) = grind arith

pub same_key-apart_after : (a b : LsaKey) → Precedes b a → same_key a b ≡ false
unfolding same_key
same_key-apart_after a b (inl p) = grind arith
same_key-apart_after a b (inr (k, inl p)) = grind arith
same_key-apart_after a b (inr (k, inr p)) = grind arith

pub same_key-eq : (a b : LsaKey) → same_key a b ≡ true → a ≡ b
same_key-eq a b is = elim (Precedes-cases a b) [
  | inl e ↦ e
  | inr s ↦ elim s [ inl lt ↦ absurd (let no = same_key-apart a b lt in cc) | inr gt ↦ absurd (let no = same_key-apart_after a b gt in cc) ]
]

bool_cases : (b : Bool) → (b ≡ true) ⊎ (b ≡ false)
bool_cases true = inl refl
bool_cases false = inr refl

-- in either order
pub same_key-turned : (a b : LsaKey) → same_key a b ≡ same_key b a
same_key-turned a b = elim (bool_cases (same_key a b)) [
  | inl one ↦ let e = same_key-eq a b one in subst (λ (k : LsaKey). same_key a k ≡ same_key k a) e refl
  | inr two ↦ elim (bool_cases (same_key b a)) [
    | inl back ↦ let e = same_key-eq b a back in subst (λ (k : LsaKey). same_key k b ≡ same_key b k) e refl
    | inr apart ↦ cc
  ]
]

split_and : (a b : Bool) → a && b ≡ true → (a ≡ true) × (b ≡ true)
split_and true b is = (refl, is)
split_and false b is = absurd (false≢true is)

made : LsaKey → ℤ → ℕ → Instance
made k n s = record { key = k; number = n; sum = s }

made_same : (k k' : LsaKey) (n n' : ℤ) (s s' : ℕ) → k ≡ k' → n ≡ n' → s ≡ s' → made k n s ≡ made k' n' s'
made_same k k' n n' s s' p q r = cc

pub same_instance-eq : (i j : Instance) → same_instance i j ≡ true → i ≡ j
unfolding same_instance made
same_instance-eq i j is =
    let p = split_and (same_key i.key j.key && int_eq i.number j.number) (i.sum == j.sum) is in
    let q = split_and (same_key i.key j.key) (int_eq i.number j.number) p.0 in
    made_same i.key j.key i.number j.number i.sum j.sum (same_key-eq i.key j.key q.0) ((Decides-int_eq i.number j.number).0 q.1) (eqb-true i.sum j.sum p.1)

pub same_instance-refl : (i : Instance) → same_instance i i ≡ true
unfolding same_instance
same_instance-refl i =
    let k = same_key-refl i.key in
    let n = (Decides-int_eq i.number i.number).1 refl in
    let s = eq-eqb i.sum i.sum refl in
    rw (k, n, s) refl
