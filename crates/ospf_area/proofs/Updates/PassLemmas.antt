-- An LSA that is passed over.
use Rattle.std.proofs.Common.{◌≡◌, ◌==◌, ◌||◌, ◌++◌, ◌⊎◌, inl, inr, ℕ, Bool, true, false, List, [], ◌∷◌, None, refl, subst}
use Rattle.std.proofs.lemmas.List.Elements.{Contains-push_cases}
use Rattle.std.proofs.lemmas.Bool.{eqb-true}
use Rattle.std.specs.List.{Contains}
use Rattle.ospf_base.specs.Keys.{key_from}
use Rattle.ospf_base.specs.declared.ids.RouterId.{RouterId}
use Rattle.ospf_exchange.specs.Rules.{is_other}
use Rattle.ospf_lsa.specs.Header.{header_of, key_of_header}
use Rattle.ospf_lsa.specs.Lsa.{type_of}
use Rattle.ospf_lsa.specs.declared.header.LsaHeader.{LsaHeader}
use Rattle.ospf_area.specs.State.{AreaValue, neighbour_at, state_in}
use Rattle.ospf_area.specs.declared.flooding.PacketSource.{PacketSource}
use Rattle.ospf_neighbour.specs.Machine.{is_exchanging}
use Rattle.ospf_area.specs.Updates.Updates.{IsOtherLsa, PassesOver}

-- LS types 3, 4 and 5 have no key
keyless : (type id : ℕ) (router : RouterId) → is_other type ≡ true → key_from type id router ≡ None
keyless type id router is = go (type == 3) (type == 4) refl refl is
  where
    go : (three four : Bool) → (type == 3) ≡ three → (type == 4) ≡ four → three || (four || (type == 5)) ≡ true → key_from type id router ≡ None
    go true four at_three at_four any = let type_is : type ≡ 3 = eqb-true type 3 at_three in rw type_is refl
    go false true at_three at_four any = let type_is : type ≡ 4 = eqb-true type 4 at_four in rw type_is refl
    go false false at_three at_four any = let type_is : type ≡ 5 = eqb-true type 5 any in rw type_is refl

-- the router is as it was but for its direct acknowledgements, and a new one is of no key
pub record Passes (s t : AreaValue) : Type 0 where
  pub direct : List LsaHeader
  pub state : t ≡ record s { direct = direct }
  pub nameless : (h : LsaHeader) → Contains direct h → Contains s.direct h ⊎ (key_of_header h ≡ None)

pub passed : (passes_over : Bool) (f : PacketSource) (bytes : List ℕ) (s t : AreaValue) → PassesOver passes_over f bytes s t → Passes s t
passed false f bytes s t is = record { direct = s.direct; state = is; nameless = λ h there. inl there }
passed true f bytes s t (inl ((taken, other), is)) = record {
  direct = s.direct ++ header_of bytes ∷ [];
  state = is;
  nameless = λ h there. elim (Contains-push_cases s.direct (header_of bytes) h there) [
    | inl old ↦ inl old
    | inr new ↦ inr (subst (λ (x : LsaHeader). key_of_header x ≡ None) new (keyless (type_of bytes) (header_of bytes).id (header_of bytes).router other.kind))
  ];
}
passed true f bytes s t (inr (none, is)) = record { direct = s.direct; state = is; nameless = λ h there. inl there }

-- where one comes that is to be acknowledged, and where none does
pub acknowledged : (passes_over : Bool) (f : PacketSource) (bytes : List ℕ) (s t : AreaValue) → passes_over ≡ true → is_exchanging (state_in (neighbour_at s.links f.link f.router)) ≡ true → IsOtherLsa bytes
    → t ≡ record s { direct = s.direct ++ header_of bytes ∷ [] } → PassesOver passes_over f bytes s t
acknowledged false f bytes s t passes taken other is = absurd (cc)
acknowledged true f bytes s t passes taken other is = inl ((taken, other), is)

pub left_alone : (passes_over : Bool) (f : PacketSource) (bytes : List ℕ) (s : AreaValue)
    → (passes_over ≡ true → is_exchanging (state_in (neighbour_at s.links f.link f.router)) ≡ true → IsOtherLsa bytes → ⊥) → PassesOver passes_over f bytes s s
left_alone false f bytes s none = refl
left_alone true f bytes s none = inr ((λ comes. none refl comes.0 comes.1), refl)
