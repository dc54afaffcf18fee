-- Lists of links that grow by one.
use Rattle.std.proofs.Common.{◌≡◌, ◌<◌, ◌≤◌, ◌++◌, ◌⊎◌, ◌↔◌, ℕ, Bool, true, false, List, [], ◌∷◌, Option, None, Some, refl, sym, ap, subst, inl, inr, arith, get_or, length}
use Rattle.std.proofs.lemmas.List.Elements.{Contains-append_left, Contains-push, Contains-push_cases}
use Rattle.std.proofs.lemmas.Bool.{false≢true, ltb-false, ltb-true}
use Rattle.std.proofs.lemmas.List.{get_or_default}
use Rattle.std.specs.List.{AllWithin, Contains, HoldsAt}
use Rattle.std.specs.Prelude.{IsTrue, MatchBool, nat_lt}
use Rattle.ospf_lsa.specs.declared.link.Link.{Link}
use Rattle.ospf_lsa.specs.declared.link.LinkKind.{LinkKind}
use Rattle.ospf_graph.specs.EdgeLists.Costs.{IsLeastOf, IsTo, NamesLinkTo, lesser_of}

-- what is answered of the links, one after the other
pub names_by : (kind : LinkKind) (id : ℕ) (r : Bool) (xs : List Link) → MatchBool r ((k : ℕ) × (k < length xs) × HoldsAt (IsTo kind id) xs k) (AllWithin (λ l. IsTo kind id l → ⊥) xs 0 (length xs))
    → IsTrue r ↔ NamesLinkTo xs kind id
names_by kind id true [] found = absurd (omega (arith, found.1))
names_by kind id true (x ∷ xs) found = ((λ _. (get_or (x ∷ xs) found.0 x, (found.0, found.1, get_or_default (x ∷ xs) found.0 _ x found.1), found.2 x)), λ _. refl)
names_by kind id false xs none = ((λ yes. absurd (false≢true yes)), λ some. absurd (none some.1.0 some.0 (omega arith) some.1.1 (subst (λ (l : Link). IsTo kind id l) (sym some.1.2) some.2)))

bool_cases : (b : Bool) → (b ≡ true) ⊎ (b ≡ false)
bool_cases true = inl refl
bool_cases false = inr refl

module _ (P : Link → Type 0) where
  -- one that does, and is the least
  here : (xs : List Link) (x : Link) → P x → ((l : Link) → Contains xs l → P l → x.metric ≤ l.metric) → IsLeastOf P (xs ++ x ∷ []) (Some x.metric)
  here xs x p low = (
    (x, Contains-push xs x, p, refl),
    λ l there q. elim (Contains-push_cases xs x l there) [
      | inl before ↦ low l before q
      | inr same ↦ (let is : x.metric ≡ l.metric = ap (λ (y : Link). y.metric) same in omega arith)
    ],
  )

  -- or is not
  there : (xs : List Link) (x : Link) (n : ℕ) → n < x.metric → IsLeastOf P xs (Some n) → IsLeastOf P (xs ++ x ∷ []) (Some n)
  there xs x n less h = (
    (h.0.0, Contains-append_left xs (x ∷ []) h.0.0 h.0.1, h.0.2, h.0.3),
    λ l at p. elim (Contains-push_cases xs x l at) [
      | inl before ↦ h.1 l before p
      | inr same ↦ (let is : x.metric ≡ l.metric = ap (λ (y : Link). y.metric) same in omega arith)
    ],
  )

  pub least_more : (xs : List Link) (x : Link) (o : Option ℕ) → P x → IsLeastOf P xs o → IsLeastOf P (xs ++ x ∷ []) (Some (lesser_of o x.metric))
  least_more xs x None p none = here xs x p (λ l before q. absurd (none l before q))
  least_more xs x (Some n) p h = elim (bool_cases (nat_lt n x.metric)) [
    | inl less ↦ rw less (there xs x n (ltb-true n x.metric less) h)
    | inr more ↦ rw more (here xs x p (λ l before q. let low : n ≤ l.metric = h.1 l before q in let high : x.metric ≤ n = ltb-false n x.metric more in omega arith))
  ]
