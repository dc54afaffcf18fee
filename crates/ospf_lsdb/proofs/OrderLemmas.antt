-- The order of what is due.
use Rattle.std.proofs.Common.{◌≡◌, ◌<◌, ◌≤◌, ◌==◌, ◌+◌, ◌⊎◌, inl, inr, ℕ, true, false, refl, ◌∙◌, arith}
use Rattle.std.specs.Ordering.{nat_cmp, is_eq, is_le, is_gt, ordering_then}
use Rattle.std.specs.declared.cmp.Ordering.{Ordering}
use Rattle.std.specs.declared.cmp.Ordering.TheVariants.{Less, Equal, Greater}
use Rattle.ospf_base.specs.declared.ids.LsaKey.{LsaKey}
use Rattle.ospf_base.specs.declared.ids.Kind.{Kind}
use Rattle.ospf_base.specs.declared.ids.Kind.TheVariants.{Router, Network}
use Rattle.ospf_base.specs.Keys.{Precedes, key_cmp}
use Rattle.ospf_base.proofs.KeyMaps.{is_eq-key_cmp, is_eq-nat_cmp, is_eq-then, key_cmp-less, kind_cmp, nat_cmp-eq, nat_cmp-gt, nat_cmp-less, nat_cmp-lt, then-less}
use Rattle.ospf_lsdb.specs.declared.moments.AgeDue.{AgeDue}
use Rattle.std.specs.BTreeMap.Range.{range_contains}
use Rattle.std.specs.declared.ops.Bound.TheVariants.{Included, Excluded}
use Rattle.ospf_lsdb.specs.Moments.{due_cmp, same_due, is_due_at}

pub is_eq-due_cmp : (a b : AgeDue) → is_eq (due_cmp a b) ≡ same_due a b
unfolding same_due
is_eq-due_cmp a b =
    let x = is_eq-then (nat_cmp a.moment b.moment) (ordering_then (nat_cmp a.age b.age) (key_cmp a.key b.key)) in
    let y = is_eq-then (nat_cmp a.age b.age) (key_cmp a.key b.key) in
    let m = is_eq-nat_cmp a.moment b.moment in
    let n = is_eq-nat_cmp a.age b.age in
    let k = is_eq-key_cmp a.key b.key in
    x ∙ (rw (y, m, n, k) refl)

-- of one moment and one age, what stands first has the first key
pub due_cmp-less : (a b : AgeDue) → a.moment ≡ b.moment → a.age ≡ b.age → due_cmp a b ≡ Less → Precedes a.key b.key
due_cmp-less a b m n is = elim (then-less (nat_cmp a.moment b.moment) (ordering_then (nat_cmp a.age b.age) (key_cmp a.key b.key)) is) [
  | inl less ↦ let lt = nat_cmp-less a.moment b.moment less in absurd (omega arith)
  | inr more ↦ elim (then-less (nat_cmp a.age b.age) (key_cmp a.key b.key) more.1) [
    | inl less ↦ let lt = nat_cmp-less a.age b.age less in absurd (omega arith)
    | inr last ↦ key_cmp-less a.key b.key last.1
  ]
]

differ : (a b : ℕ) → (a < b) ⊎ (b < a) → (b == a) ≡ false
differ a b (inl lt) = grind arith
differ a b (inr gt) = grind arith

same : (a b : ℕ) → a ≡ b → (b == a) ≡ true
same a b is = grind arith

order : (a b : ℕ) → (a < b) ⊎ ((b < a) ⊎ (a ≡ b))
order a b = grind arith

-- the first of all keys
abbrev pub first_key : LsaKey
first_key = record { kind = Router; id = 0; router = record { 0 = 0 } }

zero_le : (n : ℕ) → is_le (nat_cmp 0 n) ≡ true
zero_le n = elim (order 0 n) [
  | inl lt ↦ let e = nat_cmp-lt 0 n lt in rw e refl
  | inr more ↦ elim more [ inl gt ↦ absurd (omega arith) | inr eq ↦ let e = nat_cmp-eq 0 n eq in rw e refl ]
]

is_le-then : (a b : Ordering) → is_le a ≡ true → is_le b ≡ true → is_le (ordering_then a b) ≡ true
is_le-then Less b p q = refl
is_le-then Equal b p q = q
is_le-then Greater b p q = p

kind_le : (k : Kind) → is_le (kind_cmp Router k) ≡ true
kind_le Router = refl
kind_le Network = refl

first_le : (k : LsaKey) → is_le (key_cmp first_key k) ≡ true
first_le k = is_le-then (kind_cmp Router k.kind) (ordering_then (nat_cmp 0 k.id) (nat_cmp 0 k.router.0)) (kind_le k.kind) (is_le-then (nat_cmp 0 k.id) (nat_cmp 0 k.router.0) (zero_le k.id) (zero_le k.router.0))

-- what the set puts first is due no later in the count of the clock
pub moment_le : (f d : AgeDue) → is_gt (due_cmp f d) ≡ false → f.moment ≤ d.moment
moment_le f d le = elim (order f.moment d.moment) [
  | inl lt ↦ omega arith
  | inr more ↦ elim more [
    | inl gt ↦
        let e = nat_cmp-gt f.moment d.moment gt in
        let greater : is_gt (due_cmp f d) ≡ true = rw e refl in
        absurd (cc)
    | inr eq ↦ omega arith
  ]
]

not_gt : (o : Ordering) → is_le o ≡ true → is_gt o ≡ false
not_gt Less is = refl
not_gt Equal is = refl
not_gt Greater is = absurd (cc)

-- and the first of all at a moment stands in front of what is due from then on
pub first_due_le : (clock : ℕ) (d : AgeDue) → clock ≤ d.moment → is_gt (due_cmp (record { moment = clock; age = 0; key = first_key }) d) ≡ false
first_due_le clock d from = not_gt (due_cmp (record { moment = clock; age = 0; key = first_key }) d)
    (is_le-then (nat_cmp clock d.moment) (ordering_then (nat_cmp 0 d.age) (key_cmp first_key d.key)) (not_past clock d.moment from)
    (is_le-then (nat_cmp 0 d.age) (key_cmp first_key d.key) (zero_le d.age) (first_le d.key)))
  where
    not_past : (a b : ℕ) → a ≤ b → is_le (nat_cmp a b) ≡ true
    not_past a b le = elim (order a b) [
      | inl lt ↦ let e = nat_cmp-lt a b lt in rw e refl
      | inr more ↦ elim more [ inl gt ↦ absurd (omega arith) | inr eq ↦ let e = nat_cmp-eq a b eq in rw e refl ]
    ]

-- the range of one moment and one age
pub in_range : (m a : ℕ) (q : AgeDue) → range_contains due_cmp (Included (record { moment = m; age = a; key = first_key })) (Excluded (record { moment = m; age = a + 1; key = first_key })) q ≡ is_due_at m a q
in_range m a q = elim (order m q.moment) [
  | inl lt ↦ let e = nat_cmp-lt m q.moment lt in let n = differ m q.moment (inl lt) in rw (e, n) refl
  | inr more ↦ elim more [
    | inl gt ↦ let e = nat_cmp-gt m q.moment gt in let n = differ m q.moment (inr gt) in rw (e, n) refl
    | inr at ↦
        let e = nat_cmp-eq m q.moment at in
        let s = same m q.moment at in
        let f = first_le q.key in
        elim (order a q.age) [
          | inl lt ↦
              let x = nat_cmp-lt a q.age lt in
              let n = differ a q.age (inl lt) in
              elim (order (a + 1) q.age) [
                | inl less ↦ let y = nat_cmp-lt (a + 1) q.age less in rw (e, s, x, n, y) refl
                | inr other ↦ elim other [
                  | inl greater ↦ absurd (omega arith)
                  | inr equal ↦ let y = nat_cmp-eq (a + 1) q.age equal in rw (e, s, x, n, y, f) refl
                ]
              ]
          | inr rest ↦ elim rest [
            | inl gt ↦ let x = nat_cmp-gt a q.age gt in let n = differ a q.age (inr gt) in rw (e, s, x, n) refl
            | inr eq ↦
                let x = nat_cmp-eq a q.age eq in
                let n = same a q.age eq in
                let past : q.age < a + 1 = omega arith in
                let y = nat_cmp-gt (a + 1) q.age past in
                rw (e, s, x, n, y, f) refl
          ]
        ]
  ]
]
