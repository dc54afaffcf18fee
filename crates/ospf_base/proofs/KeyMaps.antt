-- The order of keys, as a map has it.
use Rattle.std.proofs.Common.{◌≡◌, ◌<◌, ◌==◌, ◌&&◌, ◌⊎◌, inl, inr, ℕ, Bool, true, false, refl, ◌∙◌, arith}
use Rattle.std.proofs.lemmas.Grind.{common_steps}
use Rattle.std.specs.Ordering.{nat_cmp, is_eq, ordering_then}
use Rattle.std.specs.declared.cmp.Ordering.{Ordering}
use Rattle.std.specs.declared.cmp.Ordering.TheVariants.{Less, Equal, Greater}
use Rattle.ospf_base.specs.declared.ids.LsaKey.{LsaKey}
use Rattle.ospf_base.specs.declared.ids.Kind.{Kind}
use Rattle.ospf_base.specs.declared.ids.Kind.TheVariants.{Router, Network}
use Rattle.ospf_base.specs.Keys.{ls_type, Precedes, key_cmp, same_key}
use Rattle.ospf_base.specs.contracts.ids.KindOrd.TheImpl as kind_ord

abbrev pub kind_cmp : Kind → Kind → Ordering
kind_cmp = (kind_ord.ghosts).cmp

pub is_eq-then : (a b : Ordering) → is_eq (ordering_then a b) ≡ is_eq a && is_eq b
is_eq-then Less b = refl
is_eq-then Equal b = refl
is_eq-then Greater b = refl

pub is_eq-nat_cmp : (a b : ℕ) → is_eq (nat_cmp a b) ≡ (a == b)
is_eq-nat_cmp a b = grind (arith, common_steps)

is_eq-kind_cmp : (a b : Kind) → is_eq (kind_cmp a b) ≡ (ls_type a == ls_type b)
is_eq-kind_cmp Router Router = refl
is_eq-kind_cmp Router Network = refl
is_eq-kind_cmp Network Router = refl
is_eq-kind_cmp Network Network = refl

-- keys that the map takes for one are one
pub is_eq-key_cmp : (a b : LsaKey) → is_eq (key_cmp a b) ≡ same_key a b
unfolding same_key
is_eq-key_cmp a b =
    let k = is_eq-kind_cmp a.kind b.kind in
    let i = is_eq-nat_cmp a.id b.id in
    let r = is_eq-nat_cmp a.router.0 b.router.0 in
    let x = is_eq-then (kind_cmp a.kind b.kind) (ordering_then (nat_cmp a.id b.id) (nat_cmp a.router.0 b.router.0)) in
    let y = is_eq-then (nat_cmp a.id b.id) (nat_cmp a.router.0 b.router.0) in
    x ∙ (rw (k, y, i, r) (assoc (ls_type a.kind == ls_type b.kind) (a.id == b.id) (a.router.0 == b.router.0)))
  where
    assoc : (p q s : Bool) → p && (q && s) ≡ (p && q) && s
    assoc true q s = refl
    assoc false q s = refl

pub then-less : (a b : Ordering) → ordering_then a b ≡ Less → (a ≡ Less) ⊎ ((a ≡ Equal) × (b ≡ Less))
then-less Less b is = inl refl
then-less Equal b is = inr (refl, is)
then-less Greater b is = absurd (cc)

pub nat_cmp-less : (a b : ℕ) → nat_cmp a b ≡ Less → a < b
nat_cmp-less a b is = grind (arith, common_steps)

nat_cmp-equal : (a b : ℕ) → nat_cmp a b ≡ Equal → a ≡ b
nat_cmp-equal a b is = grind (arith, common_steps)

kind_cmp-less : (a b : Kind) → kind_cmp a b ≡ Less → ls_type a < ls_type b
kind_cmp-less Router Router is = absurd (cc)
kind_cmp-less Router Network is = omega arith
kind_cmp-less Network Router is = absurd (cc)
kind_cmp-less Network Network is = absurd (cc)

kind_cmp-equal : (a b : Kind) → kind_cmp a b ≡ Equal → ls_type a ≡ ls_type b
kind_cmp-equal Router Router is = refl
kind_cmp-equal Router Network is = absurd (cc)
kind_cmp-equal Network Router is = absurd (cc)
kind_cmp-equal Network Network is = refl

-- what the map puts first stands first
pub key_cmp-less : (a b : LsaKey) → key_cmp a b ≡ Less → Precedes a b
key_cmp-less a b is = elim (then-less (kind_cmp a.kind b.kind) (ordering_then (nat_cmp a.id b.id) (nat_cmp a.router.0 b.router.0)) is) [
  | inl k ↦ inl (kind_cmp-less a.kind b.kind k)
  | inr more ↦ elim (then-less (nat_cmp a.id b.id) (nat_cmp a.router.0 b.router.0) more.1) [
    | inl i ↦ inr (kind_cmp-equal a.kind b.kind more.0, inl (nat_cmp-less a.id b.id i))
    | inr last ↦ inr (kind_cmp-equal a.kind b.kind more.0, inr (nat_cmp-equal a.id b.id last.0, nat_cmp-less a.router.0 b.router.0 last.1))
  ]
]

pub nat_cmp-lt : (a b : ℕ) → a < b → nat_cmp a b ≡ Less
nat_cmp-lt a b is = grind (arith, common_steps)

pub nat_cmp-eq : (a b : ℕ) → a ≡ b → nat_cmp a b ≡ Equal
nat_cmp-eq a b is = grind (arith, common_steps)

pub nat_cmp-gt : (a b : ℕ) → b < a → nat_cmp a b ≡ Greater
nat_cmp-gt a b is = grind (arith, common_steps)

kind_cmp-lt : (a b : Kind) → ls_type a < ls_type b → kind_cmp a b ≡ Less
kind_cmp-lt Router Router lt = absurd (omega arith)
kind_cmp-lt Router Network lt = refl
kind_cmp-lt Network Router lt = absurd (omega arith)
kind_cmp-lt Network Network lt = absurd (omega arith)

kind_cmp-eq : (a b : Kind) → ls_type a ≡ ls_type b → kind_cmp a b ≡ Equal
kind_cmp-eq Router Router is = refl
kind_cmp-eq Router Network is = absurd (omega arith)
kind_cmp-eq Network Router is = absurd (omega arith)
kind_cmp-eq Network Network is = refl

-- what stands first, the map puts first
pub less-key_cmp : (a b : LsaKey) → Precedes a b → key_cmp a b ≡ Less
less-key_cmp a b (inl k) = let e = kind_cmp-lt a.kind b.kind k in rw e refl
less-key_cmp a b (inr (k, inl i)) = let e = kind_cmp-eq a.kind b.kind k in let f = nat_cmp-lt a.id b.id i in rw (e, f) refl
less-key_cmp a b (inr (k, inr r)) = let e = kind_cmp-eq a.kind b.kind k in let f = nat_cmp-eq a.id b.id r.0 in let g = nat_cmp-lt a.router.0 b.router.0 r.1 in rw (e, f, g) refl
