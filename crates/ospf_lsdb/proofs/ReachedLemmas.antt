-- Keys that reached an age, and LSAs that are listed.
use Rattle.std.proofs.Common.{◌≡◌, ◌<◌, ◌≤◌, inl, inr, ℕ, false, List, [], ◌∷◌, ◌++◌, refl, ap, sym, ◌∙◌, subst, arith, nat_lt}
use Rattle.std.proofs.lemmas.Bool.{lt-ltb}
use Rattle.std.specs.List.{AllByRecursion}
use Rattle.ospf_base.specs.declared.ids.LsaKey.{LsaKey}
use Rattle.ospf_base.specs.Keys.{Precedes}
use Rattle.ospf_lsa.specs.Lsa.{key_of}
use Rattle.ospf_lsdb.specs.Database.{Entry, Held, lsa_of, is_fresh, listed, listed_of}
use Rattle.ospf_lsdb.proofs.Places.{AllBefore}
use Rattle.ospf_lsdb.proofs.EntryLemmas.{key_of-with_age}
use Rattle.ospf_lsdb.proofs.MapLemmas.{bool_cases}

append_nil : (xs : List (List ℕ)) → xs ++ [] ≡ xs
append_nil [] = refl
append_nil (x ∷ xs) = ap (λ (t : List (List ℕ)). x ∷ t) (append_nil xs)

pub listed_of-yes : (e : Entry) → e.age < 3600 → listed_of e ≡ lsa_of e ∷ []
unfolding listed_of
listed_of-yes e lt = let young = lt-ltb e.age 3600 lt in rw young refl

pub listed_of-no : (e : Entry) → 3600 ≤ e.age → listed_of e ≡ []
unfolding listed_of
listed_of-no e old = let aged : nat_lt e.age 3600 ≡ false = grind arith in rw aged refl

pub nothing_more : (xs : List (List ℕ)) (e : Entry) → 3600 ≤ e.age → xs ≡ xs ++ listed_of e
nothing_more xs e old = sym (ap (λ (t : List (List ℕ)). xs ++ t) (listed_of-no e old) ∙ append_nil xs)

-- what is listed of entries before a key stands before it
pub listed_before : (key : LsaKey) (db : List Held) → AllBefore key db → AllByRecursion (λ lsa. Precedes (key_of lsa) key) (listed db)
listed_before key [] below = tt
listed_before key (h ∷ hs) below = elim (bool_cases (is_fresh h.entry)) [
  | inl one ↦ rw one (subst (λ (k : LsaKey). Precedes k key) (sym (key_of-with_age h.entry.age h.entry.contents)) below.0, listed_before key hs below.1)
  | inr two ↦ rw two (listed_before key hs below.1)
]
