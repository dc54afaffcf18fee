-- What a slow interface sent is another instance than the copy, by its age.
use Rattle.std.proofs.Common.{◌≡◌, ◌⊎◌, ◌+◌, ◌<◌, ◌≤◌, ◌++◌, ℕ, min, Option, None, Some, List, inl, inr, refl, ap, ◌∙◌, arith}
use Rattle.ospf_base.specs.Bytes.{number_bytes}
use Rattle.ospf_base.specs.Constants.{max_age, max_age_diff}
use Rattle.ospf_base.specs.declared.ids.Instance.{Instance}
use Rattle.ospf_lsa.specs.Header.{header_of}
use Rattle.ospf_lsa.specs.Lsa.{with_age}
use Rattle.ospf_lsa.specs.Recency.{IsNewer, recency}
use Rattle.ospf_lsa.specs.declared.header.LsaHeader.{LsaHeader}
use Rattle.ospf_lsa.specs.declared.recency.Recency.{Recency}
use Rattle.ospf_lsa.specs.declared.recency.Recency.TheVariants.{Newer, Older, Same}
use Rattle.std.proofs.lemmas.Bool.Decides.{nat_tests}
use Rattle.std.proofs.lemmas.Int.{ints}
use Rattle.ospf_lsdb.specs.Database.{Entry, instance_at, lsa_of}
use Rattle.ospf_lsdb.proofs.EntryLemmas as entry
use Rattle.ospf_area.specs.Sending.{sent_lsa}
use Rattle.ospf_area.specs.Updates.Meets.{named_by}

newer_is : (a b : LsaHeader) → IsNewer a b → recency a b ≡ Newer
newer_is a b n = grind (arith, ints, nat_tests)

older_is : (a b : LsaHeader) → IsNewer b a → recency a b ≡ Older
older_is a b n = grind (arith, ints, nat_tests)

names_none : (i : Instance) (r : Recency) → (r ≡ Newer) ⊎ (r ≡ Older) → ◌≡◌ {A = Option Instance} (elim r [ Same ↦ Some i | _ ↦ None ]) None
names_none i Newer is = refl
names_none i Older is = refl
names_none i Same (inl is) = absurd (cc)
names_none i Same (inr is) = absurd (cc)

at_most : (n : ℕ) → min n 3600 ≤ 3600
at_most n = grind arith

-- which it is: at MaxAge, or older by more than MaxAgeDiff
data IsApart (sent copy : ℕ) : Type 0 where
  at_max_age : sent ≡ 3600 → IsApart sent copy
  far : (sent ≡ 3600 → ⊥) → copy + 900 < sent → IsApart sent copy

apart : (n copy : ℕ) → copy + 900 < n → copy < 3600 → IsApart (min n 3600) copy
apart n copy over young = grind arith

by_age : (h : LsaHeader) (sent copy : ℕ) → copy < 3600 → IsApart sent copy
    → (recency (record h { age = sent }) (record h { age = copy }) ≡ Newer) ⊎ (recency (record h { age = sent }) (record h { age = copy }) ≡ Older)
by_age h sent copy young (at_max_age is) =
    inl (newer_is (record h { age = sent }) (record h { age = copy }) (inr (refl, inr (refl, (λ old. omega (arith, old, young)), inl is))))
by_age h sent copy young (far less over) =
    inr (older_is (record h { age = sent }) (record h { age = copy }) (inr (refl, inr (refl, less, inr over))))

pub slow : (delay : ℕ) (sent copy : Entry) (ticks : ℕ) → copy.contents ≡ sent.contents → copy.age ≡ sent.age + ticks → copy.age < max_age → ticks + max_age_diff < delay
    → named_by (header_of (sent_lsa delay (lsa_of sent))) (Some copy) ≡ None
slow delay sent copy ticks same aged young over =
    let lsa : List ℕ = lsa_of sent in
    let h : LsaHeader = header_of lsa in
    let before : sent.age ≤ 3600 = omega (arith, aged, young) in
    let now : copy.age ≤ 3600 = omega (arith, young) in
    let own : h.age ≡ sent.age = ap (λ (x : LsaHeader). x.age) (entry.header_at lsa sent.age before) in
    let age : ℕ = min (h.age + delay) 3600 in
    let first : header_of (with_age age lsa) ≡ record h { age = age } = entry.header_at lsa age (at_most (h.age + delay)) in
    let second : header_of (lsa_of copy) ≡ record h { age = copy.age } = ap (λ (xs : List ℕ). header_of (number_bytes 2 copy.age ++ xs)) same ∙ entry.header_at lsa copy.age now in
    let far_off : copy.age + 900 < h.age + delay = omega (arith, own, aged, over) in
    let differ = by_age h age copy.age young (apart (h.age + delay) copy.age far_off young) in
    let both : recency (header_of (with_age age lsa)) (header_of (lsa_of copy)) ≡ recency (record h { age = age }) (record h { age = copy.age }) =
    ap (λ (x : LsaHeader). recency x (header_of (lsa_of copy))) first ∙ ap (λ (x : LsaHeader). recency (record h { age = age }) x) second in
    names_none (instance_at copy) (recency (header_of (with_age age lsa)) (header_of (lsa_of copy)))
    (elim differ [ inl newer ↦ inl (both ∙ newer) | inr older ↦ inr (both ∙ older) ])
