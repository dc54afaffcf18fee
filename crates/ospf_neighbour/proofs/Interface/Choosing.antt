-- The best of a list's beginning, one candidate longer.
use Rattle.std.proofs.Common.{◌≡◌, ◌≢◌, ◌++◌, List, [], ◌∷◌, Option, None, Some, map, refl, sym, ap, ◌∙◌, subst, inl, inr, arith}
use Rattle.std.specs.List.{Contains}
use Rattle.std.proofs.lemmas.List.Elements.{Contains-append_left, Contains-push, Contains-push_cases}
use Rattle.std.proofs.lemmas.Bool.Decides.{eqb_tells}
use Rattle.ospf_base.specs.declared.ids.RouterId.{RouterId}
use Rattle.ospf_neighbour.specs.declared.iface.candidate.Candidate.{Candidate}
use Rattle.ospf_neighbour.specs.Interface.Election.{Outranks, IsBestIn, HasNoneIn, declaring, AreDistinct}
use Rattle.ospf_neighbour.proofs.Interface.Words.{declared}
use Rattle.ospf_neighbour.specs.Interface.Choice.{BestOr}
use Rattle.ospf_neighbour.specs.Interface.Choice.BestOr.{Outside, Stays, First, Follows}
use Rattle.ospf_neighbour.proofs.Interface.Members.{no_member, map_same, one_member}

pub Outranks-irrefl : (a : Candidate) → Outranks a a → ⊥
Outranks-irrefl a (inl lt) = omega arith
Outranks-irrefl a (inr tie) = omega (arith, tie.1)

pub Outranks-trans : (a b c : Candidate) → Outranks a b → Outranks b c → Outranks a c
Outranks-trans a b c (inl p) (inl q) = inl (omega arith)
Outranks-trans a b c (inl p) (inr q) = inl (omega (arith, q.0))
Outranks-trans a b c (inr p) (inl q) = inl (omega (arith, p.0))
Outranks-trans a b c (inr p) (inr q) = inr (omega (arith, p.0, q.0), omega (arith, p.1, q.1))

-- the best of these, or none of them is in the set
abbrev pub IsBestOrNone : (Candidate → Type 0) → List Candidate → Option Candidate → Type 0
IsBestOrNone Set xs None = HasNoneIn Set xs
IsBestOrNone Set xs (Some b) = IsBestIn Set xs b

module _ (Set : Candidate → Type 0) (xs : List Candidate) (c : Candidate) where
  still_none : HasNoneIn Set xs → (Set c → ⊥) → HasNoneIn Set (xs ++ c ∷ [])
  still_none h out =
      record { none = λ d m s. elim (Contains-push_cases xs c d m) [ inl old ↦ h.none d old s | inr e ↦ out (subst Set (sym e) s) ] }

  still_best : (b : Candidate) → IsBestIn Set xs b → (Set c → Outranks c b → ⊥) → IsBestIn Set (xs ++ c ∷ []) b
  still_best b h below =
      record {
        member = Contains-append_left xs _ b h.member;
        belongs = h.belongs;
        max_seq = λ d m s above. elim (Contains-push_cases xs c d m) [
          | inl old ↦ h.max_seq d old s above
          | inr e ↦ below (subst Set (sym e) s) (subst (λ x. Outranks x b) (sym e) above)
        ];
      }

  now_best : Set c → ((d : Candidate) → Contains xs d → Set d → Outranks d c → ⊥) → IsBestIn Set (xs ++ c ∷ []) c
  now_best belongs below =
      record {
        member = Contains-push xs c;
        belongs = belongs;
        max_seq = λ d m s above. elim (Contains-push_cases xs c d m) [
          | inl old ↦ below d old s above
          | inr e ↦ Outranks-irrefl c (subst (λ x. Outranks x c) (sym e) above)
        ];
      }

  outside : (best : Option Candidate) → IsBestOrNone Set xs best → (Set c → ⊥) → IsBestOrNone Set (xs ++ c ∷ []) best
  outside None h out = still_none h out
  outside (Some b) h out = still_best b h (λ s above. out s)

  pub best_more : (best result : Option Candidate) → IsBestOrNone Set xs best → BestOr Set best c result → IsBestOrNone Set (xs ++ c ∷ []) result
  best_more best result h (Outside out e) = rw e (outside best h out)
  best_more best result h (Stays b is below e) =
      let was : IsBestIn Set xs b = rw is at h in
      rw (e, is) (still_best b was (λ s above. below above))
  best_more best result h (First is s e) =
      let was : HasNoneIn Set xs = rw is at h in
      rw e (now_best s (λ d m in_set above. was.none d m in_set))
  best_more best result h (Follows b is s above e) =
      let was : IsBestIn Set xs b = rw is at h in
      rw e (now_best s (λ d m in_set more. was.max_seq d m in_set (Outranks-trans d c b more above)))

declares_own : (me : RouterId) (own c : Candidate) → own.id ≡ me → (c.id ≡ own.id → c ≡ own) → declaring me (declared own) c ≡ c
declares_own me own c is only =
    elim (eqb_tells c.id.0 me.0) [
      | inl w ↦ let here : c.id ≡ me = (λ i. record { 0 = w.1 i }) in
          let one : c ≡ own = only (here ∙ sym is) in
          rw w.0 (let d : c.dr ≡ own.dr = ap (λ (x : Candidate). x.dr) one in let b : c.backup ≡ own.backup = ap (λ (x : Candidate). x.backup) one in λ i. record c { dr = sym d i; backup = sym b i })
      | inr w ↦ rw w.0 refl
    ]

-- the candidates as they are: the router itself declares what it declares
pub own_declaration : (candidates : List Candidate) (me : RouterId) (own : Candidate) → AreDistinct candidates → Contains candidates own → own.id ≡ me
    → map (declaring me (declared own)) candidates ≡ candidates
own_declaration candidates me own distinct member is =
    map_same (declaring me (declared own)) candidates
    (λ c m. declares_own me own c is (λ same. one_member (λ a b. a.id ≢ b.id) candidates c own distinct m member (λ ne. ne same) (λ ne. ne (sym same))))
