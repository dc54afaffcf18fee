-- Which failure of a list a word names.
use Rattle.std.specs.Prelude.{◌≡◌, ◌⊎◌, ℕ, List, Contains}
use Rattle.ospf_base.specs.Text.{prefix_text}
use Rattle.ospf_whatif.specs.Name.{area_failure_text}
use Rattle.ospf_whatif.specs.declared.failure.AreaFailure as failure
use Rattle.ospf_whatif.specs.declared.failure.AreaFailure.TheVariants.{Attachment, Links, Network, Router, Stub}
use Rattle.ospf_whatif.specs.declared.failure.AreaFailure.TheVariants as fails

-- a link in the subnet that a word is
abbrev pub IsLinkInSubnet : List ℕ → failure.AreaFailure → Type 0
IsLinkInSubnet word (fails.Link a b subnet) = prefix_text subnet ≡ word
IsLinkInSubnet word (fails.End router other subnet) = ⊥
IsLinkInSubnet word (Links a b) = ⊥
IsLinkInSubnet word (Attachment router network) = ⊥
IsLinkInSubnet word (Network network) = ⊥
IsLinkInSubnet word (Router router) = ⊥
IsLinkInSubnet word (Stub router prefix) = ⊥

-- one of the list, whose name the word is
abbrev pub HasName : List failure.AreaFailure → List ℕ → failure.AreaFailure → Type 0
HasName failures word f = Contains failures f × (area_failure_text f ≡ word)

-- a link of the list in the subnet that the word is, other than this
abbrev pub HasOther : List failure.AreaFailure → List ℕ → failure.AreaFailure → Type 0
HasOther failures word f =
    (other : failure.AreaFailure) × Contains failures other × IsLinkInSubnet word other
    × (other ≡ f → ⊥)

-- the only link of the list in the subnet that the word is
pub record IsOnlyIn (failures : List failure.AreaFailure) (word : List ℕ) (f : failure.AreaFailure)
    : Type 0 where
  pub listed : Contains failures f
  pub there : IsLinkInSubnet word f
  pub alone : (other : failure.AreaFailure) → Contains failures other → IsLinkInSubnet word other
      → other ≡ f

-- the word names a failure of the list: by its name, or where it is the name of none, a link by its
-- subnet, which no other link of the list has
abbrev pub IsNamed : List failure.AreaFailure → List ℕ → failure.AreaFailure → Type 0
IsNamed failures word f =
    HasName failures word f
    ⊎ (((other : failure.AreaFailure) → HasName failures word other → ⊥) × IsOnlyIn failures word f)
