-- Loops that add what each element gives.
use Rattle.std.proofs.Common.{◌≡◌, ◌+◌, ◌<◌, ◌↔◌, ◌⊎◌, ℕ, List, [], ◌∷◌, ◌++◌, length, take, get_or, sym, subst, inl, inr, arith}
use Rattle.std.specs.List.{Contains}
use Rattle.std.proofs.lemmas.List.{take_more}
use Rattle.std.proofs.lemmas.List.Elements.{Contains-append_left, Contains-push, Contains-push_cases}
use Rattle.ospf_graph.specs.Adds.{Adds}

-- what the elements of a list give
abbrev pub GivenBy : {X Y : Type 0} → (X → Y → Type 0) → List X → Y → Type 0
GivenBy {X} P xs y = (x : X) × Contains xs x × P x y

-- one element more
pub adds_more : {X Y : Type 0} (P : X → Y → Type 0) (xs : List X) (x : X) (old mid new : List Y)
    → Adds (GivenBy P xs) old mid → Adds (P x) mid new → Adds (GivenBy P (xs ++ x ∷ [])) old new
adds_more {X} P xs x old mid new before here y = (
  λ m. elim ((here y).0 m) [
    | inl in_mid ↦ elim ((before y).0 in_mid) [
      | inl in_old ↦ inl in_old
      | inr given ↦ inr (given.0, Contains-append_left xs (x ∷ []) given.0 given.1, given.2)
    ]
    | inr given ↦ inr (x, Contains-push xs x, given)
  ],
  λ m. elim m [
    | inl in_old ↦ (here y).1 (inl ((before y).1 (inl in_old)))
    | inr given ↦ elim (Contains-push_cases xs x given.0 given.1) [
      | inl earlier ↦ (here y).1 (inl ((before y).1 (inr (given.0, earlier, given.2))))
      | inr now ↦ (here y).1 (inr (let Q = λ (z : X). P z y in subst Q (sym now) given.2))
    ]
  ],
)

-- the same at an index
pub adds_next : {X Y : Type 0} (P : X → Y → Type 0) (xs : List X) (i : ℕ) (x : X) (old mid new : List Y) → i < length xs → x ≡ get_or xs i x
    → Adds (GivenBy P (take i xs)) old mid → Adds (P x) mid new → Adds (GivenBy P (take (i + 1) xs)) old new
adds_next P xs i x old mid new lt is before here =
    rw (take_more xs i x lt, ← is) (adds_more P (take i xs) x old mid new before here)

pub adds_none : {Y : Type 0} (P : Y → Type 0) (old : List Y) → ((y : Y) → P y → ⊥) → Adds P old old
adds_none P old none y = ((λ m. inl m), λ m. elim m [ inl before ↦ before | inr p ↦ absurd (none y p) ])

pub adds_start : {X Y : Type 0} (P : X → Y → Type 0) (old : List Y) → Adds (GivenBy P []) old old
adds_start P old = adds_none (GivenBy P []) old (λ y given. let low = given.1.1 in omega arith)

pub adds_push : {Y : Type 0} (P : Y → Type 0) (old : List Y) (x : Y) → ((y : Y) → P y ↔ (x ≡ y)) → Adds P old (old ++ x ∷ [])
adds_push P old x is y = (
  λ m. elim (Contains-push_cases old x y m) [ inl before ↦ inl before | inr here ↦ inr ((is y).1 here) ],
  λ m. elim m [ inl before ↦ Contains-append_left old (x ∷ []) y before | inr p ↦ rw (← (is y).0 p) (Contains-push old x) ],
)

-- what is added by two equal descriptions
pub adds_as : {Y : Type 0} (P Q : Y → Type 0) (old new : List Y) → ((y : Y) → P y ↔ Q y) → Adds P old new → Adds Q old new
adds_as P Q old new is h y = (
  λ m. elim ((h y).0 m) [ inl o ↦ inl o | inr p ↦ inr ((is y).0 p) ],
  λ m. (h y).1 (elim m [ inl o ↦ inl o | inr q ↦ inr ((is y).1 q) ]),
)

-- what is added in two steps
pub adds_both : {Y : Type 0} (P Q : Y → Type 0) (old mid new : List Y) → Adds P old mid → Adds Q mid new → Adds (λ y. P y ⊎ Q y) old new
adds_both P Q old mid new first then y = (
  λ m. elim ((then y).0 m) [
    | inl in_mid ↦ elim ((first y).0 in_mid) [ inl o ↦ inl o | inr p ↦ inr (inl p) ]
    | inr q ↦ inr (inr q)
  ],
  λ m. (then y).1 (elim m [
    | inl o ↦ inl ((first y).1 (inl o))
    | inr g ↦ elim g [ inl p ↦ inl ((first y).1 (inr p)) | inr q ↦ inr q ]
  ]),
)
