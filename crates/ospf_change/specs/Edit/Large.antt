-- Router-LSAs with too many links to be rebuilt (RFC 2328, appendix A.4.2).
use Rattle.std.specs.Prelude.{◌≡◌, ◌∷◌, ◌++◌, ℕ, List, codes}
use Rattle.ospf_base.specs.Text.{number_text}
use Rattle.ospf_base.specs.declared.ids.RouterId.{RouterId}
use Rattle.ospf_lsa.specs.Lsa.{key_of}
use Rattle.ospf_graph.specs.EdgeLists.Listed.{advertisement_of, advertisements_of}
use Rattle.ospf_whatif.specs.Failure.{HasLarge, IsLarge}

-- the first router-LSA of a listing with more links than the largest LSA holds is that of this
-- router
pub record IsFirstTooLarge (listing : List (List ℕ)) (router : RouterId) : Type 0 where
  pub before : List (List ℕ)
  pub lsa : List ℕ
  pub after : List (List ℕ)
  pub listing_is : listing ≡ before ++ lsa ∷ after
  pub none_before : HasLarge (advertisements_of before) → ⊥
  pub large : IsLarge (advertisement_of lsa)
  pub router_is : router ≡ (key_of lsa).router

-- the message for such a router
abbrev pub too_large_line : RouterId → List ℕ
too_large_line router = number_text router.0 ++ codes ": more than 1361 links\n"
