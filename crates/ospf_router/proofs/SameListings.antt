-- What a database lists is a listing, where it is one but for the ages.
use Rattle.std.proofs.Common.{◌≡◌, ◌<◌, ℕ, Bool, true, false, List, [], ◌∷◌, filter, map, refl, sym, ap, subst, ◌∙◌, arith}
use Rattle.std.proofs.lemmas.Bool.{ltb-true}
use Rattle.std.specs.List.{AllByRecursion}
use Rattle.ospf_base.specs.Keys.{Precedes}
use Rattle.ospf_base.specs.Sums.{contents}
use Rattle.ospf_base.specs.declared.ids.LsaKey.{LsaKey}
use Rattle.ospf_lsa.specs.Header.{HeaderFits}
use Rattle.ospf_lsa.specs.Listing.{IsListable, IsListing}
use Rattle.ospf_lsa.proofs.Words.{IsRising}
use Rattle.ospf_lsa.specs.Lsa.{key_of, with_age}
use Rattle.ospf_lsa.specs.declared.fault.LsaFault.TheVariants as fault
use Rattle.ospf_lsa.specs.declared.header.LsaHeader.{LsaHeader}
use Rattle.ospf_lsa.proofs.Aging.{IsLsa-with_age, header_of-with_age}
use Rattle.ospf_lsdb.specs.Database.{Entry, Held, entries, is_fresh, listed, lsa_of}
use Rattle.ospf_router.proofs.ListLemmas.{fresh_of}

-- ---- one entry

key_by : (lsa : List ℕ) → key_of lsa ≡ key_of (0 ∷ 0 ∷ contents lsa)
key_by [] = refl
key_by (a ∷ []) = refl
key_by (a ∷ b ∷ rest) = refl

same_key_of : (x y : List ℕ) → contents x ≡ contents y → key_of x ≡ key_of y
same_key_of x y same = key_by x ∙ (ap (λ c. key_of (0 ∷ 0 ∷ c)) same ∙ sym (key_by y))

entry_key : (e : Entry) (lsa : List ℕ) → e.contents ≡ contents lsa → key_of (lsa_of e) ≡ key_of lsa
entry_key e lsa same = same_key_of (lsa_of e) lsa same

aged_listed : (lsa : List ℕ) (age : ℕ) → age < 3600 → IsListable lsa → IsListable (with_age age lsa)
aged_listed lsa age young is =
    let long = (is.0 fault.Short).0 in
    let header = header_of-with_age age lsa (omega (arith, long)) (omega (arith, young)) in (
      IsLsa-with_age age lsa is.0,
      subst (λ (h : LsaHeader). HeaderFits h) (sym header) (record { options = is.1.options; kind = is.1.kind; id = is.1.id; router = is.1.router; number = is.1.number; sum = is.1.sum; length_fits = is.1.length_fits }),
      subst (λ (h : LsaHeader). h.age < 3600) (sym header) young,
    )

entry_listed : (e : Entry) (lsa : List ℕ) → e.contents ≡ contents lsa → is_fresh e ≡ true → IsListable lsa → IsListable (lsa_of e)
entry_listed e lsa same fresh is = subst (λ (c : List ℕ). IsListable (lsa_of (record e { contents = c }))) (sym same) (aged_listed lsa e.age (ltb-true e.age 3600 fresh) is)

-- ---- all of them

abbrev AllFresh : List Entry → Type 0
AllFresh es = AllByRecursion (λ e. is_fresh e ≡ true) es

after_same : (k : LsaKey) (es : List Entry) (ls : List (List ℕ)) → map (λ e. e.contents) es ≡ map contents ls → AllByRecursion (λ o. Precedes k (key_of o)) ls → AllByRecursion (λ o. Precedes k (key_of o)) (map lsa_of es)
after_same k [] ls same all = tt
after_same k (e ∷ es) [] same all = absurd (cc)
after_same k (e ∷ es) (l ∷ ls) same all =
    let first : e.contents ≡ contents l = cc in
    let rest : map (λ e. e.contents) es ≡ map contents ls = cc in (
      subst (λ (key : LsaKey). Precedes k key) (sym (entry_key e l first)) all.0,
      after_same k es ls rest all.1,
    )

rising_same : (es : List Entry) (ls : List (List ℕ)) → map (λ e. e.contents) es ≡ map contents ls → IsRising ls → IsRising (map lsa_of es)
rising_same [] ls same rises = tt
rising_same (e ∷ es) [] same rises = absurd (cc)
rising_same (e ∷ es) (l ∷ ls) same rises =
    let first : e.contents ≡ contents l = cc in
    let rest : map (λ e. e.contents) es ≡ map contents ls = cc in (
      subst (λ (key : LsaKey). AllByRecursion (λ o. Precedes key (key_of o)) (map lsa_of es)) (sym (entry_key e l first)) (after_same (key_of l) es ls rest rises.0),
      rising_same es ls rest rises.1,
    )

listed_same : (es : List Entry) (ls : List (List ℕ)) → map (λ e. e.contents) es ≡ map contents ls → AllFresh es → AllByRecursion IsListable ls → AllByRecursion IsListable (map lsa_of es)
listed_same [] ls same fresh all = tt
listed_same (e ∷ es) [] same fresh all = absurd (cc)
listed_same (e ∷ es) (l ∷ ls) same fresh all =
    let first : e.contents ≡ contents l = cc in
    let rest : map (λ e. e.contents) es ≡ map contents ls = cc in (
      entry_listed e l first fresh.0 all.0,
      listed_same es ls rest fresh.1 all.1,
    )

-- ---- of a database

all_fresh : (es : List Entry) → AllFresh (filter is_fresh es)
all_fresh [] = tt
all_fresh (e ∷ es) = by (is_fresh e) refl (all_fresh es)
  where
    by : (b : Bool) → is_fresh e ≡ b → AllFresh (filter is_fresh es) → AllFresh (filter is_fresh (e ∷ es))
    by true fresh rest = rw fresh (fresh, rest)
    by false old rest = rw old rest

pub listed_by : (db : List Held) → listed db ≡ map lsa_of (filter is_fresh (entries db))
listed_by [] = refl
listed_by (h ∷ hs) = by (is_fresh h.entry) refl (listed_by hs)
  where
    by : (b : Bool) → is_fresh h.entry ≡ b → listed hs ≡ map lsa_of (filter is_fresh (entries hs)) → listed (h ∷ hs) ≡ map lsa_of (filter is_fresh (entries (h ∷ hs)))
    by true fresh rest = rw fresh (ap (λ xs. lsa_of h.entry ∷ xs) rest)
    by false old rest = rw old rest

pub same_listing : (db : List Held) (ls : List (List ℕ)) → fresh_of (entries db) ≡ map contents ls → IsListing ls → IsListing (listed db)
same_listing db ls same is =
    let es = filter is_fresh (entries db) in
    subst (λ (xs : List (List ℕ)). IsListing xs) (sym (listed_by db)) (record { rising = rising_same es ls same is.rising; listed = listed_same es ls same (all_fresh (entries db)) is.listed })
