-- Names of failures, found in a list.
use Rattle.std.proofs.Common.{◌≡◌, ◌+◌, ◌<◌, ◌≤◌, ◌∙◌, ℕ, List, take, length, get_or, sym, subst, inl, inr}
use Rattle.std.proofs.lemmas.List.{take_all}
use Rattle.std.specs.List.{Contains}
use Rattle.ospf_graph.proofs.ListLemmas.{more_members}
use Rattle.ospf_whatif.specs.declared.failure.AreaFailure.{AreaFailure}

-- what holds of all before, and of one more
pub each_more : (P : AreaFailure → Type 0) (failures : List AreaFailure) (i : ℕ) (x : AreaFailure) → i < length failures → x ≡ get_or failures i x
    → ((f : AreaFailure) → Contains (take i failures) f → P f) → P x → (f : AreaFailure) → Contains (take (i + 1) failures) f → P f
each_more P failures i x within is before here f m =
    elim ((more_members failures i x within f).0 m) [
      | inl old ↦ before f old
      | inr new ↦ subst P (is ∙ new) here
    ]

-- what holds of all before the end
pub each_of_all : (P : AreaFailure → Type 0) (failures : List AreaFailure) (i : ℕ) → length failures ≤ i
    → ((f : AreaFailure) → Contains (take i failures) f → P f) → (f : AreaFailure) → Contains failures f → P f
each_of_all P failures i end before f m = before f (subst (λ (l : List AreaFailure). Contains l f) (sym (take_all i failures end)) m)
