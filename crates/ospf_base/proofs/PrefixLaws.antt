-- A prefix is its address and its length, and an address has one prefix under a mask.
use Rattle.std.proofs.Common.{◌≡◌, ◌-◌, ◌^◌, ◌<◌, ◌≤◌, ℕ, sym, ◌∙◌, subst, inl, inr, arith}
use Rattle.std.specs.Prelude.{bit_and}
use Rattle.std.proofs.Math.Bridge.{le_prop}
use Rattle.std.proofs.Math.Nat.{ℕ_set}
use Rattle.std.proofs.Math.Pow.{pow-lt}
use Rattle.std.proofs.lemmas.Bool.{cases_order}
use Rattle.ospf_base.specs.Masks.{mask_of}
use Rattle.ospf_base.specs.Prefixes.{IsPrefixOf}
use Rattle.ospf_base.specs.declared.ids.Addr.{Addr}
use Rattle.ospf_base.specs.declared.prefix.Prefix.{Prefix}

abbrev made : (a : Addr) (n : ℕ) → n ≤ 32 → bit_and a.0 (mask_of n) ≡ a.0 → Prefix
made a n short masked = record { address = a; length = n; short = short; masked = masked }

made_same : (a : Addr) (n : ℕ) (short short' : n ≤ 32) (masked masked' : bit_and a.0 (mask_of n) ≡ a.0)
    → made a n short masked ≡ made a n short' masked'
made_same a n short short' masked masked' =
    λ i. record { address = a; length = n; short = le_prop short short' i; masked = ℕ_set _ _ masked masked' i }

pub prefix_same : (p q : Prefix) → p.address.0 ≡ q.address.0 → p.length ≡ q.length → p ≡ q
prefix_same p q e f =
    let address : p.address ≡ q.address = λ i. record { 0 = e i } in
    let At : Addr → Type 0 = λ a. (short : p.length ≤ 32) (masked : bit_and a.0 (mask_of p.length) ≡ a.0) → p ≡ made a p.length short masked in
    let Long : ℕ → Type 0 = λ n. (short : n ≤ 32) (masked : bit_and q.address.0 (mask_of n) ≡ q.address.0) → p ≡ made q.address n short masked in
    let at_address = subst At address (λ short masked. made_same p.address p.length p.short short p.masked masked) in
    subst Long f at_address q.short q.masked

small_power : (k : ℕ) → k ≤ 32 → 2 ^ k ≤ 2 ^ 32
small_power k le = elim (cases_order k 32) [
  | inl same ↦ rw same (omega arith)
  | inr far ↦ elim far [ inl less ↦ (let lt : 2 ^ k < 2 ^ 32 = pow-lt less in omega arith) | inr more ↦ absurd (omega arith) ]
]

mask_less : (n m : ℕ) → n < m → m ≤ 32 → mask_of n ≡ mask_of m → ⊥
mask_less n m lt le same =
    let less : 2 ^ (32 - m) < 2 ^ (32 - n) = pow-lt (omega arith) in
    let low : 2 ^ (32 - n) ≤ 2 ^ 32 = small_power (32 - n) (omega arith) in
    omega arith

pub mask_injective : (n m : ℕ) → n ≤ 32 → m ≤ 32 → mask_of n ≡ mask_of m → n ≡ m
mask_injective n m ln lm same = elim (cases_order n m) [
  | inl is ↦ is
  | inr far ↦ elim far [ inl less ↦ absurd (mask_less n m less lm same) | inr more ↦ absurd (mask_less m n more ln (sym same)) ]
]

-- an address has one prefix under a mask
pub prefix_one : (address mask : ℕ) (p q : Prefix) → IsPrefixOf address mask p → IsPrefixOf address mask q → p ≡ q
prefix_one address mask p q hp hq =
    prefix_same p q (hp.masked ∙ sym hq.masked) (mask_injective p.length q.length p.short q.short (sym hp.mask_is ∙ hq.mask_is))
