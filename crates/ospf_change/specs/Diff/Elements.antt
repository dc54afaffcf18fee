-- The links, attachments, networks and routers that an area has and another has not.
use Rattle.std.specs.Prelude.{◌≡◌, ◌↔◌, ℕ, List, ◌++◌, AllPairs, Contains, codes, flat_map}
use Rattle.ospf_graph.specs.Advertisements.{Advertisement}
use Rattle.ospf_whatif.specs.Name.{area_failure_text}
use Rattle.ospf_whatif.specs.Single.{IsFailure, IsFailureBefore}
use Rattle.ospf_whatif.specs.declared.failure.AreaFailure.{AreaFailure}

-- the elements of the first list that are not in the second, in the order of failures and so each
-- once
pub record AreElementsMissing (elements others missing : List AreaFailure) : Type 0 where
  pub in_order : AllPairs IsFailureBefore missing
  pub whole : (element : AreaFailure) → Contains missing element
      ↔ (Contains elements element × (Contains others element → ⊥))

-- what may fail in the first area and is no part of the second, in the order of failures
pub record AreElementsOnlyIn (area other : List Advertisement) (found : List AreaFailure)
    : Type 0 where
  pub in_order : AllPairs IsFailureBefore found
  pub whole : (element : AreaFailure) → Contains found element
      ↔ (IsFailure area element × (IsFailure other element → ⊥))

-- a line for each, which a sign begins
abbrev pub elements_text : List ℕ → List AreaFailure → List ℕ
elements_text sign elements =
    flat_map (λ e. sign ++ codes " " ++ area_failure_text e ++ codes "\n") elements

-- the lines of the elements that went, and after them of those that came
pub record AreElementsChanged (before after : List AreaFailure) (text : List ℕ) : Type 0 where
  pub went : List AreaFailure
  pub are_went : AreElementsMissing before after went
  pub came : List AreaFailure
  pub are_came : AreElementsMissing after before came
  pub text_is : text ≡ elements_text (codes "-") went ++ elements_text (codes "+") came
