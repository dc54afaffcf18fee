-- What is due, as a set.
use Rattle.std.proofs.Common.{◌≡◌, ◌==◌, ◌&&◌, ◌||◌, not, cond, inl, inr, ◌+◌, ℕ, Bool, true, false, List, [], ◌∷◌, map, filter, refl, ap, sym, ◌∙◌, subst, arith, BTreeSet}
use Rattle.std.proofs.lemmas.Bool.{eqb-true}
use Rattle.std.specs.List.{list_any}
use Rattle.std.specs.Ordering.{is_eq}
use Rattle.std.specs.BTreeSet as sorted
use Rattle.ospf_base.specs.declared.ids.LsaKey.{LsaKey}
use Rattle.ospf_base.specs.Keys.{same_key}
use Rattle.ospf_lsdb.specs.declared.moments.AgeDue.{AgeDue}
use Rattle.ospf_lsdb.specs.Moments.{due_cmp, same_due, has_due, is_due_at, keys_at}
use Rattle.ospf_lsdb.proofs.MapLemmas.{bool_cases}
use Rattle.ospf_base.proofs.SameKeys.{same_key-eq, same_key-refl}
use Rattle.ospf_lsdb.proofs.OrderLemmas.{is_eq-due_cmp, in_range, first_key}
use Rattle.std.specs.declared.ops.Bound.TheVariants.{Included, Excluded}

has_list : (q : AgeDue) (dues : List AgeDue) → list_any (λ k. is_eq (due_cmp q k)) dues ≡ has_due dues q
has_list q [] = refl
has_list q (d ∷ ds) = let e = is_eq-due_cmp q d in rw e (ap (λ (b : Bool). same_due q d || b) (has_list q ds))

-- the set has what its list has
pub has-contains : (s : BTreeSet AgeDue) (q : AgeDue) → sorted.contains due_cmp s q ≡ has_due s.keys q
has-contains s q = has_list q s.keys

-- added
pub has-added : (s t : BTreeSet AgeDue) (due : AgeDue) → sorted.Updates due_cmp s t due true → (q : AgeDue) → has_due t.keys q ≡ same_due due q || has_due s.keys q
has-added s t due up q =
    sym (has-contains t q) ∙ up.0 q ∙ ap (λ (b : Bool). cond b true (sorted.contains due_cmp s q)) (is_eq-due_cmp due q)
    ∙ ap (λ (b : Bool). cond (same_due due q) true b) (has-contains s q) ∙ either (same_due due q) (has_due s.keys q)
  where
    either : (a b : Bool) → cond a true b ≡ a || b
    either true b = refl
    either false b = refl

-- taken out
pub has-removed : (s t : BTreeSet AgeDue) (due : AgeDue) → sorted.Updates due_cmp s t due false → (q : AgeDue) → has_due t.keys q ≡ not (same_due due q) && has_due s.keys q
has-removed s t due up q =
    sym (has-contains t q) ∙ up.0 q ∙ ap (λ (b : Bool). cond b false (sorted.contains due_cmp s q)) (is_eq-due_cmp due q)
    ∙ ap (λ (b : Bool). cond (same_due due q) false b) (has-contains s q) ∙ both (same_due due q) (has_due s.keys q)
  where
    both : (a b : Bool) → cond a false b ≡ not a && b
    both true b = refl
    both false b = refl

made : ℕ → ℕ → LsaKey → AgeDue
made m a k = record { moment = m; age = a; key = k }

made_same : (m n a b : ℕ) (k l : LsaKey) → m ≡ n → a ≡ b → k ≡ l → made m a k ≡ made n b l
made_same m n a b k l p q r = cc

pub made_is : (d : AgeDue) (m a : ℕ) (k : LsaKey) → d.moment ≡ m → d.age ≡ a → d.key ≡ k → d ≡ record { moment = m; age = a; key = k }
unfolding made
made_is d m a k p q r = made_same d.moment m d.age a d.key k p q r

pub split_and : (a b : Bool) → a && b ≡ true → (a ≡ true) × (b ≡ true)
split_and true b is = (refl, is)
split_and false b is = absurd (cc)

-- one due is another
pub same_due-eq : (d q : AgeDue) → same_due d q ≡ true → d ≡ q
unfolding same_due made
same_due-eq d q is =
    let p = split_and (d.moment == q.moment) ((d.age == q.age) && same_key d.key q.key) is in
    let r = split_and (d.age == q.age) (same_key d.key q.key) p.1 in
    made_same d.moment q.moment d.age q.age d.key q.key (eqb-true d.moment q.moment p.0) (eqb-true d.age q.age r.0) (same_key-eq d.key q.key r.1)

eq_refl : (n : ℕ) → (n == n) ≡ true
eq_refl n = grind arith

pub same_due-refl : (d : AgeDue) → same_due d d ≡ true
unfolding same_due
same_due-refl d = let m = eq_refl d.moment in let a = eq_refl d.age in let k = same_key-refl d.key in rw (m, a, k) refl

-- nothing comes to the age at the moment
pub keys_at-none : (moment age : ℕ) (dues : List AgeDue) → keys_at moment age dues ≡ [] → (q : AgeDue) → is_due_at moment age q ≡ true → has_due dues q ≡ false
unfolding keys_at
keys_at-none moment age [] none q at = refl
keys_at-none moment age (d ∷ ds) none q at = elim (bool_cases (is_due_at moment age d)) [
  | inl one ↦ absurd (let e = simp one at none in cc)
  | inr two ↦
      let rest : keys_at moment age ds ≡ [] = simp two at none in
      let apart : same_due q d ≡ false = elim (bool_cases (same_due q d)) [
        | inl same ↦ absurd (let e = ap (λ (x : AgeDue). is_due_at moment age x) (same_due-eq q d same) in cc)
        | inr not_same ↦ not_same
      ] in
      rw apart (keys_at-none moment age ds rest q at)
]

-- the first that does
pub keys_at-first : (moment age : ℕ) (dues : List AgeDue) (key : LsaKey) (keys : List LsaKey) → keys_at moment age dues ≡ key ∷ keys → has_due dues (record { moment = moment; age = age; key = key }) ≡ true
unfolding keys_at
keys_at-first moment age [] key keys first = absurd (cc)
keys_at-first moment age (d ∷ ds) key keys first = elim (bool_cases (is_due_at moment age d)) [
  | inl one ↦
      let here : d.key ∷ keys_at moment age ds ≡ key ∷ keys = simp one at first in
      let p = split_and (d.moment == moment) (d.age == age) one in
      let same : d ≡ record { moment = moment; age = age; key = key } = made_is d moment age key (eqb-true d.moment moment p.0) (eqb-true d.age age p.1) (cc) in
      let sure : same_due (record { moment = moment; age = age; key = key }) d ≡ true = subst (λ (x : AgeDue). same_due x d ≡ true) same (same_due-refl d) in
      rw sure refl
  | inr two ↦
      let rest : keys_at moment age ds ≡ key ∷ keys = simp two at first in
      or_right (same_due (record { moment = moment; age = age; key = key }) d) (has_due ds (record { moment = moment; age = age; key = key })) (keys_at-first moment age ds key keys rest)
]
  where
    or_right : (a b : Bool) → b ≡ true → a || b ≡ true
    or_right true b is = refl
    or_right false b is = is

-- ---- Booleans

pub and_true : (d a b : Bool) → d ≡ true → a ≡ b → a ≡ d && b
and_true true a b sure is = is
and_true false a b sure is = absurd (cc)

pub or_step : (d a b s : Bool) → d ≡ true → a ≡ s || b → a ≡ (d && s) || b
or_step true a b s sure is = is
or_step false a b s sure is = absurd (cc)

pub or_twice : (f a s n : Bool) → f || (a || s) ≡ (a || f) || s
or_twice true true s n = refl
or_twice true false s n = refl
or_twice false true s n = refl
or_twice false false s n = refl

pub and_twice : (f a s : Bool) → not f && (not a && s) ≡ not (a || f) && s
and_twice true true s = refl
and_twice true false s = refl
and_twice false true s = refl
and_twice false false s = refl

-- what was added because it was new, taken out again
pub undone : (due q : AgeDue) (is_due : Bool) (old : List AgeDue) → not ((is_due && not (has_due old due)) && same_due due q) && ((is_due && same_due due q) || has_due old q) ≡ has_due old q
undone due q is_due old = elim (bool_cases (same_due due q)) [
  | inl one ↦
      let e : has_due old q ≡ has_due old due = ap (λ (x : AgeDue). has_due old x) (sym (same_due-eq due q one)) in
      rw (one, e) (cases is_due (has_due old due))
  | inr two ↦ rw two (others is_due (is_due && not (has_due old due)) (has_due old q))
]
  where
    cases : (d h : Bool) → not ((d && not h) && true) && ((d && true) || h) ≡ h
    cases true true = refl
    cases true false = refl
    cases false true = refl
    cases false false = refl

    others : (d n h : Bool) → not (n && false) && ((d && false) || h) ≡ h
    others true true h = refl
    others true false h = refl
    others false true h = refl
    others false false h = refl

filter_same : (p q : AgeDue → Bool) → ((d : AgeDue) → p d ≡ q d) → (ds : List AgeDue) → filter p ds ≡ filter q ds
filter_same p q same [] = refl
filter_same p q same (d ∷ ds) = ap (λ (b : Bool). cond b (d ∷ filter p ds) (filter p ds)) (same d) ∙ ap (λ (t : List AgeDue). cond (q d) (d ∷ t) t) (filter_same p q same ds)

-- the part of the set at one moment and one age
pub keys_at-range : (s : BTreeSet AgeDue) (m a : ℕ) → map (λ (d : AgeDue). d.key) (sorted.keys_between due_cmp (Included (record { moment = m; age = a; key = first_key })) (Excluded (record { moment = m; age = a + 1; key = first_key })) s) ≡ keys_at m a s.keys
unfolding keys_at
keys_at-range s m a = ap (λ (ds : List AgeDue). map (λ (d : AgeDue). d.key) ds) (filter_same _ (is_due_at m a) (in_range m a) s.keys)

-- what is not of a moment and an age is no such thing
pub apart_at : (moment age : ℕ) (key : LsaKey) (q : AgeDue) → is_due_at moment age q ≡ false → same_due (record { moment = moment; age = age; key = key }) q ≡ false
apart_at moment age key q apart = elim (bool_cases (same_due (record { moment = moment; age = age; key = key }) q)) [
  | inl one ↦
      absurd (let e = ap (λ (d : AgeDue). is_due_at moment age d) (same_due-eq (record { moment = moment; age = age; key = key }) q one) in
      let m = eq_refl moment in let a = eq_refl age in
      let there : is_due_at moment age (record { moment = moment; age = age; key = key }) ≡ true = rw (m, a) refl in cc)
  | inr two ↦ two
]

pub and_right : (a b : Bool) → a && b ≡ true → b ≡ true
and_right true b is = is
and_right false b is = absurd (cc)

pub forgotten : (at : Bool) (now old : Bool) → (at ≡ true → now ≡ false) → (at ≡ false → now ≡ old) → now ≡ not at && old
forgotten true now old gone kept = gone refl
forgotten false now old gone kept = kept refl
