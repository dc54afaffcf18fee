-- A prefix is a block of addresses, and blocks of prefixes in order lie in one another or apart.
use Rattle.std.proofs.Common.{subst, ◌≡◌, ◌+◌, ◌-◌, ◌*◌, ◌/◌, ◌^◌, ◌<◌, ◌≤◌, ◌⊎◌, ℕ, List, [], ◌∷◌, length, get_or, sym, ap, ◌∙◌, inl, inr, arith}
use Rattle.std.specs.Prelude.{bit_and}
use Rattle.std.specs.List.{AllPairs}
use Rattle.std.proofs.lemmas.List.{get_or-map}
use Rattle.std.proofs.lemmas.Nat.{and_le_l, and_le_r, div-add-mod', div_below, le-div, pow-add, pow_pos, mul-le}
use Rattle.std.proofs.lemmas.Nat.Bits.{and_high_mask, and_high_mask_twice}
use Rattle.ospf_base.specs.declared.prefix.Prefix.{Prefix}
use Rattle.ospf_base.specs.Masks.{mask_of}
use Rattle.ospf_base.specs.Prefixes.{Holds, IsPrefixBefore}
use Rattle.ospf_base.proofs.PrefixLaws.{prefix_same}
use Rattle.ospf_graph.specs.declared.route.Route.{Route}
use Rattle.ospf_graph.specs.Routes.{IsRouteBefore}
use Rattle.ospf_spf.proofs.PrefixOrder.{prefixes_told}
use Rattle.ospf_fib.specs.PrefixIndex.Ranges.{end_of, IsPlaceFor}
use Rattle.ospf_fib.specs.PrefixIndex.Sweep.{IsLongest, blocks_of}
use Rattle.ospf_fib.proofs.PrefixIndex.SweepLemmas.{AreNested}

same_or_less : (i j : ℕ) → i ≤ j → (i ≡ j) ⊎ (i < j)
same_or_less i j le = grind arith

less_or_more : (i j : ℕ) → (i < j) ⊎ (j ≤ i)
less_or_more i j = grind arith

-- how many addresses a prefix has
abbrev size : Prefix → ℕ
size p = 2 ^ (32 - p.length)

masked : (p : Prefix) (a : ℕ) → a < 2 ^ 32 → bit_and a (mask_of p.length) ≡ a / size p * size p
masked p a lt = and_high_mask 32 (32 - p.length) (omega arith) a lt

-- the address is small
pub first_small : (p : Prefix) → p.address.0 < 2 ^ 32
first_small p =
    let le : bit_and p.address.0 (mask_of p.length) ≤ mask_of p.length = and_le_r p.address.0 (mask_of p.length) in
    let some = pow_pos (32 - p.length) in
    let e = p.masked in omega (arith, le, some, e)

-- it is a multiple of the size
multiple : (p : Prefix) → p.address.0 / size p * size p ≡ p.address.0
multiple p = sym (masked p p.address.0 (first_small p)) ∙ p.masked

pub holds_in : (p : Prefix) (a : ℕ) → a < 2 ^ 32 → Holds p a → (p.address.0 ≤ a) × (a < end_of p)
holds_in p a lt h =
    let is : a / size p * size p ≡ p.address.0 = sym (masked p a lt) ∙ h in
    let all = div-add-mod' a (size p) in
    let some = pow_pos (32 - p.length) in
    (omega (arith, is, all), omega (arith, is, all, some))

pub in_holds : (p : Prefix) (a : ℕ) → a < 2 ^ 32 → p.address.0 ≤ a → a < end_of p → Holds p a
in_holds p a lt low high =
    let m = size p in
    let q = p.address.0 / m in
    let is = multiple p in
    let some : 0 < m = pow_pos (32 - p.length) in
    let up : q ≤ a / m = le-div q a m some (omega (arith, is, low)) in
    let down : a / m < q + 1 = div_below a m (q + 1) some (omega (arith, is, high)) in
    let same : a / m ≡ q = omega arith in
    masked p a lt ∙ ap (λ n. n * m) same ∙ is

one_holder : (p q : Prefix) (address : ℕ) → Holds p address → Holds q address → p.length ≡ q.length → p ≡ q
one_holder p q address hp hq same = prefix_same p q (sym hp ∙ ap (λ n. bit_and address (mask_of n)) same ∙ hq) same

shorter_first : (p q : Prefix) (address : ℕ) → Holds p address → Holds q address → q.length < p.length → IsPrefixBefore p q → ⊥
shorter_first p q address hp hq less before =
    let within : 32 - q.length ≤ 32 = omega arith in
    let twice = and_high_mask_twice 32 (32 - q.length) within address (32 - p.length) (omega arith) in
    let inner : bit_and p.address.0 (mask_of q.length) ≡ q.address.0 = ap (λ a. bit_and a (mask_of q.length)) (sym hp) ∙ twice ∙ hq in
    let lower : q.address.0 ≤ p.address.0 = subst (λ a. a ≤ p.address.0) inner (and_le_l p.address.0 (mask_of q.length)) in
    grind arith

-- multiples of a size below a larger one's multiple end there at the latest
fits : (u v m : ℕ) → u * m < v * m → u * m + m ≤ v * m
fits u v m lt =
    elim (less_or_more u v) [
      | inl less ↦ let le = mul-le (u + 1) m v m (omega arith) (omega arith) in omega (arith, le)
      | inr more ↦ absurd (let le = mul-le v m u m more (omega arith) in omega (arith, le))
    ]

-- a prefix behind another, which begins before that ends, lies in it and is longer
pub lies_in : (p q : Prefix) → IsPrefixBefore p q → q.address.0 < end_of p → (end_of q ≤ end_of p) × (p.length < q.length)
lies_in p q before lt =
    let low : p.address.0 ≤ q.address.0 = grind arith in
    let hp : Holds p q.address.0 = in_holds p q.address.0 (first_small q) low lt in
    let hq : Holds q q.address.0 = q.masked in
    elim (less_or_more p.length q.length) [
      | inl longer ↦
          let more = q.length - p.length in
          let split : size p ≡ 2 ^ more * size q = ap (λ n. 2 ^ n) (let e : 32 - p.length ≡ more + (32 - q.length) = omega (arith, q.short) in e) ∙ pow-add 2 more (32 - q.length) in
          let u = q.address.0 / size q in
          let v = p.address.0 / size p in
          let of_q = multiple q in
          let of_p = multiple p in
          let end : end_of p ≡ (v * 2 ^ more + 2 ^ more) * size q = omega (arith, of_p, split, scaled v (2 ^ more) (size q) (size p) split) in
          let inside = fits u (v * 2 ^ more + 2 ^ more) (size q) (omega (arith, of_q, end, lt)) in
          (omega (arith, of_q, end, inside), longer)
      | inr not_longer ↦ elim (same_or_less q.length p.length not_longer) [
        | inl same ↦ absurd (prefixes_told.irrefl p (subst (λ x. IsPrefixBefore p x) (sym (one_holder p q q.address.0 hp hq (sym same))) before))
        | inr less ↦ absurd (shorter_first p q q.address.0 hp hq less before)
      ]
    ]
  where
    scaled : (v t m s : ℕ) → s ≡ t * m → v * s + s ≡ (v * t + t) * m
    scaled v t m s e = rw e (omega arith)

-- what the numbers of a block are
module _ (routes : List Route) (k : ℕ) (d : Route) (lt : k < length routes) where
  pub first_is : (blocks_of routes).first k ≡ (get_or routes k d).prefix.address.0
  first_is = get_or-map (λ r. r.prefix.address.0) routes k d 0 lt

  pub end_is : (blocks_of routes).end k ≡ end_of (get_or routes k d).prefix
  end_is = get_or-map (λ r. end_of r.prefix) routes k d 0 lt

  pub long_is : (blocks_of routes).long k ≡ (get_or routes k d).prefix.length
  long_is = get_or-map (λ r. r.prefix.length) routes k d 0 lt

-- the blocks of a table
module _ (routes : List Route) (order : AllPairs IsRouteBefore routes) where
  some_route : (k : ℕ) → k < length routes → Route
  some_route k lt = at routes k lt
    where
      at : (rs : List Route) (k : ℕ) → k < length rs → Route
      at [] k lt = absurd (omega arith)
      at (r ∷ rs) k lt = r

  pub table_nested : AreNested (blocks_of routes)
  table_nested =
      record {
        in_order = λ k l le lt.
            let d = some_route l lt in
            elim (same_or_less k l le) [
              | inl same ↦ let e = ap (blocks_of routes).first same in omega (arith, e)
              | inr less ↦
                  let p = order k l d less lt in
                  let low : (get_or routes k d).prefix.address.0 ≤ (get_or routes l d).prefix.address.0 = grind arith in
                  omega (arith, low, first_is routes k d (omega arith), first_is routes l d lt)
            ];
        nested = λ k l less lt inside.
            let d = some_route l lt in
            let small : k < length routes = omega arith in
            let n = lies_in (get_or routes k d).prefix (get_or routes l d).prefix (order k l d less lt) (omega (arith, inside, first_is routes l d lt, end_is routes k d small)) in
            (omega (arith, n.0, end_is routes k d small, end_is routes l d lt), omega (arith, n.1, long_is routes k d small, long_is routes l d lt));
        not_empty = λ k lt.
            let d = some_route k lt in
            omega (arith, pow_pos (32 - (get_or routes k d).prefix.length), first_is routes k d lt, end_is routes k d lt);
      }

  -- the longest block that has an address is that of the best route
  pub longest_answers : (address t : ℕ) → address < 2 ^ 32 → IsLongest (blocks_of routes) address t → IsPlaceFor routes address t
  longest_answers address t small h = (
    λ lt.
        let p = h.0 lt in
        record {
          within = lt;
          holds = λ d. in_holds (get_or routes t d).prefix address small (omega (arith, p.0.0, first_is routes t d lt)) (omega (arith, p.0.1, end_is routes t d lt));
          longest = λ k d in_table held.
              let has = holds_in (get_or routes k d).prefix address small held in
              let le = p.1 k in_table (omega (arith, has.0, first_is routes k d in_table), omega (arith, has.1, end_is routes k d in_table)) in
              omega (arith, le, long_is routes k d in_table, long_is routes t d lt);
        },
    λ le k d in_table held.
        let has = holds_in (get_or routes k d).prefix address small held in
        h.1 le k in_table (omega (arith, has.0, first_is routes k d in_table), omega (arith, has.1, end_is routes k d in_table)),
  )
