-- A next hop among others, and something that holds of one in a list.
use Rattle.std.proofs.Common.{◌≡◌, ◌∙◌, ◌↔◌, ◌⊎◌, inl, inr, refl, subst, sym, zero, suc, List, [], ◌∷◌, Any, Bool, Contains, arith}
use Rattle.std.specs.Bool.{IsTrue}
use Rattle.std.specs.List.{list_any}
use Rattle.std.proofs.lemmas.List.Folds.{Any-from_list_any, list_any-from_Any}
use Rattle.ospf_graph.specs.declared.hop.NextHop.{NextHop}
use Rattle.ospf_graph.specs.contracts.hop.NextHopPartialEq.TheImpl.{eq-value}
use Rattle.ospf_spf.proofs.SameRoute.{hops_decide}

-- whether a slice contains a hop
pub among : (hop : NextHop) (others : List NextHop) (answer : Bool) → answer ≡ list_any (λ y. eq-value.it y hop) others → IsTrue answer ↔ Contains others hop
among hop others answer is = (
  (λ t.
      let found = Any-from_list_any (λ (y : NextHop). eq-value.it y hop) others (sym is ∙ t) in
      let same : found.1 ≡ hop = (hops_decide found.1 hop).0 found.4 in
      subst (Contains others) same (found.0, found.2, found.3)),
  (λ c. is ∙ list_any-from_Any (λ (y : NextHop). eq-value.it y hop) others (c.0, hop, c.1, c.2, (hops_decide hop hop).1 refl)),
)

-- ---- of one in a list

any_here : {A : Type 0} (P : A → Type 0) (x : A) (xs : List A) → P x → Any P (x ∷ xs)
any_here P x xs p = (0, x, omega arith, refl, p)

any_later : {A : Type 0} (P : A → Type 0) (x : A) (xs : List A) → Any P xs → Any P (x ∷ xs)
any_later P x xs (k, y, lt, at, p) = (suc k, y, omega arith, at, p)

any_cons : {A : Type 0} (P : A → Type 0) (x : A) (xs : List A) → Any P (x ∷ xs) → P x ⊎ Any P xs
any_cons P x xs (zero, y, lt, at, p) = inl (subst P (sym at) p)
any_cons P x xs (suc k, y, lt, at, p) = inr (k, y, omega arith, at, p)

none_in : {A : Type 0} (P : A → Type 0) → Any P [] → ⊥
none_in P (k, y, lt, at, p) = omega arith

pub any_none : {A : Type 0} (P : A → Type 0) (xs : List A) → xs ≡ [] → Any P xs → ⊥
any_none P xs is h = none_in P (rw is at h)

-- it holds of one of the rest where it does of the first
pub any_first : {A : Type 0} (P : A → Type 0) (whole rest behind : List A) (x : A) → Any P whole ↔ Any P rest → rest ≡ x ∷ behind → P x → Any P whole
any_first P whole rest behind x same is p = same.1 (rw is (any_here P x behind p))

-- and where it does not, of one behind that
pub any_behind : {A : Type 0} (P : A → Type 0) (whole rest behind : List A) (x : A) → Any P whole ↔ Any P rest → rest ≡ x ∷ behind → (P x → ⊥) → Any P whole ↔ Any P behind
any_behind P whole rest behind x same is none = (
  (λ h. elim (any_cons P x behind (rw is at same.0 h)) [ inl p ↦ absurd (none p) | inr r ↦ r ]),
  (λ h. same.1 (rw is (any_later P x behind h))),
)
