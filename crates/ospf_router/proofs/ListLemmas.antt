-- What a database lists, entry by entry.
use Rattle.std.proofs.Common.{◌≡◌, ℕ, Bool, true, false, List, [], ◌∷◌, filter, map, length, not, is_some, IsTrue, Option, None, Some, refl, sym, ap, ◌∙◌, arith}
use Rattle.std.proofs.lemmas.Bool.{true≢false}
use Rattle.std.specs.Option.{MatchOption}
use Rattle.ospf_base.specs.Sums.{contents}
use Rattle.ospf_graph.specs.EdgeLists.Listed.{advertisement_of, advertisements_of, advertisement_by}
use Rattle.ospf_base.specs.declared.ids.Kind.{Kind}
use Rattle.ospf_base.specs.declared.ids.Kind.TheVariants.{Router, Network}
use Rattle.ospf_lsa.specs.Lsa.{kind_of}
use Rattle.ospf_lsdb.specs.Database.{Entry, Held, entries, is_fresh, listed, lsa_of}

-- the contents of the entries below MaxAge
abbrev pub fresh_of : List Entry → List (List ℕ)
fresh_of es = map (λ e. e.contents) (filter is_fresh es)

pub listed_fresh : (db : List Held) → map contents (listed db) ≡ fresh_of (entries db)
listed_fresh [] = refl
listed_fresh (h ∷ hs) = by (is_fresh h.entry) refl (listed_fresh hs)
  where
    by : (b : Bool) → is_fresh h.entry ≡ b → map contents (listed hs) ≡ fresh_of (entries hs) → map contents (listed (h ∷ hs)) ≡ fresh_of (entries (h ∷ hs))
    by true fresh rest = rw fresh (ap (λ xs. h.entry.contents ∷ xs) rest)
    by false old rest = rw old rest

-- what an LSA tells does not depend on its age
kind_same : (a b : ℕ) (rest : List ℕ) → kind_of (a ∷ b ∷ rest) ≡ kind_of (0 ∷ 0 ∷ rest)
kind_same a b rest = refl

by_same : (k : Kind) (a b : ℕ) (rest : List ℕ) → advertisement_by k (a ∷ b ∷ rest) ≡ advertisement_by k (0 ∷ 0 ∷ rest)
by_same Router a b rest = refl
by_same Network a b rest = refl

of_contents : (lsa : List ℕ) → advertisement_of lsa ≡ advertisement_of (0 ∷ 0 ∷ contents lsa)
of_contents [] = refl
of_contents (a ∷ []) = refl
of_contents (a ∷ b ∷ rest) = by_same (kind_of (a ∷ b ∷ rest)) a b rest ∙ ap (λ k. advertisement_by k (0 ∷ 0 ∷ rest)) (kind_same a b rest)

by_contents : (lsas : List (List ℕ)) → map advertisement_of lsas ≡ map (λ c. advertisement_of (0 ∷ 0 ∷ c)) (map contents lsas)
by_contents [] = refl
by_contents (lsa ∷ lsas) = let head = of_contents lsa in let rest = by_contents lsas in cc

pub same_told : (a b : List (List ℕ)) → map contents a ≡ map contents b → advertisements_of a ≡ advertisements_of b
unfolding advertisements_of
same_told a b same = by_contents a ∙ (ap (λ cs. map (λ c. advertisement_of (0 ∷ 0 ∷ c)) cs) same ∙ sym (by_contents b))

-- a walk that yields nothing is over
pub walk_over : {A : Type 0} (o : Option A) (P : Type 0) (Q : A → Type 0) (b : Bool) → MatchOption o P Q → is_some o ≡ not b → IsTrue b → P
walk_over None P Q b over told t = over
walk_over (Some x) P Q b over told t = absurd (true≢false (told ∙ ap not t))

-- nothing is left of either
pub none_left : (es : List Entry) (ls : List (List ℕ)) → es ≡ [] → length ls ≡ 0 → fresh_of es ≡ map contents ls
none_left es [] none zero = ap fresh_of none
none_left es (l ∷ ls) none zero = absurd (omega (arith, zero))
