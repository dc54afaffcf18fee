-- What carries the links of an area, and what fails together.
use Rattle.std.proofs.Common.{◌≡◌, ℕ, ◌↔◌, ◌⊎◌, ◌∙◌, List, [], refl, sym, subst, inl, inr, arith}
use Rattle.std.specs.List.{Contains}
use Rattle.ospf_base.specs.declared.ids.RouterId.{RouterId}
use Rattle.ospf_base.specs.declared.prefix.Prefix.{Prefix}
use Rattle.ospf_graph.specs.Adds.{Adds}
use Rattle.ospf_graph.specs.Advertisements.{Advertisement}
use Rattle.ospf_graph.specs.EdgeLists.Listed.{advertisements_of}
use Rattle.ospf_lsa.specs.Listing.{IsListing}
use Rattle.ospf_harm.specs.Carrier.{CarriedNamesTellApart, EndGiven, IsFailureBy}
use Rattle.ospf_whatif.proofs.NameLemmas.{FailureFits, failure_fits, names_apart}
use Rattle.ospf_whatif.specs.Single.{AreFailures, GivenBy, IsFailure}
use Rattle.ospf_harm.specs.declared.carrier.Carrier.{Carrier}
use Rattle.ospf_harm.specs.declared.carrier.Carrier.TheVariants.{Direct, Process, Switch}
use Rattle.ospf_whatif.specs.declared.failure.AreaFailure.{AreaFailure}
use Rattle.ospf_whatif.specs.declared.failure.AreaFailure.TheVariants.{Attachment, End, Link, Links, Network, Router, Stub}

-- what is no link gives itself
pub given_itself : (g : AreaFailure) → ((a b : RouterId) (p : Prefix) → g ≡ Link a b p → ⊥) → (f : AreaFailure) → (f ≡ g) ↔ EndGiven g f
given_itself (Link a b p) not f = absurd (not a b p refl)
given_itself (End a b p) not f = ((λ e. e), (λ e. e))
given_itself (Links a b) not f = ((λ e. e), (λ e. e))
given_itself (Attachment r n) not f = ((λ e. e), (λ e. e))
given_itself (Network n) not f = ((λ e. e), (λ e. e))
given_itself (Router r) not f = ((λ e. e), (λ e. e))
given_itself (Stub r p) not f = ((λ e. e), (λ e. e))

-- a link gives its two ends
pub link_given : (g : AreaFailure) (a b : RouterId) (p : Prefix) (one two : AreaFailure) → g ≡ Link a b p → one ≡ End a b p → two ≡ End b a p → (f : AreaFailure)
    → ((f ≡ one) ⊎ (f ≡ two)) ↔ EndGiven g f
link_given g a b p one two is first second f =
    subst (λ (h : AreaFailure). ((f ≡ one) ⊎ (f ≡ two)) ↔ EndGiven h f) (sym is) (
      (λ e. elim e [ inl x ↦ inl (x ∙ first) | inr x ↦ inr (x ∙ second) ]),
      (λ e. elim e [ inl x ↦ inl (x ∙ sym first) | inr x ↦ inr (x ∙ sym second) ]),
    )

-- in another order
pub adds_ordered : {X : Type 0} (P : X → Type 0) (old list sorted : List X) → ((x : X) → Contains sorted x ↔ Contains list x) → Adds P old list → Adds P old sorted
adds_ordered P old list sorted same adds x = ((λ m. (adds x).0 ((same x).0 m)), (λ either. (same x).1 ((adds x).1 either)))

module _ (A : List Advertisement) (single : List AreaFailure) (are : AreFailures A single) where
  end_sound : (g : AreaFailure) → IsFailure A g → (f : AreaFailure) → EndGiven g f → IsFailureBy Switch A f
  end_sound (Link a b p) is f (inl e) = subst (IsFailureBy Switch A) (sym e) (inl is)
  end_sound (Link a b p) is f (inr e) = subst (IsFailureBy Switch A) (sym e) (inr is)
  end_sound (End a b p) is f e = absurd is
  end_sound (Links a b) is f e = subst (IsFailureBy Switch A) (sym e) is
  end_sound (Attachment r n) is f e = subst (IsFailureBy Switch A) (sym e) is
  end_sound (Network n) is f e = subst (IsFailureBy Switch A) (sym e) is
  end_sound (Router r) is f e = subst (IsFailureBy Switch A) (sym e) is
  end_sound (Stub r p) is f e = absurd is

  end_complete : (f : AreaFailure) → IsFailureBy Switch A f → GivenBy EndGiven single f
  end_complete (Link a b p) is = absurd is
  end_complete (End a b p) (inl is) = (Link a b p, (are (Link a b p)).1 is, inl refl)
  end_complete (End a b p) (inr is) = (Link b a p, (are (Link b a p)).1 is, inr refl)
  end_complete (Links a b) is = (Links a b, (are (Links a b)).1 is, refl)
  end_complete (Attachment r n) is = (Attachment r n, (are (Attachment r n)).1 is, refl)
  end_complete (Network n) is = (Network n, (are (Network n)).1 is, refl)
  end_complete (Router r) is = (Router r, (are (Router r)).1 is, refl)
  end_complete (Stub r p) is = absurd is

  pub ends_are : (all : List AreaFailure) → Adds (GivenBy EndGiven single) [] all → (f : AreaFailure) → Contains all f ↔ IsFailureBy Switch A f
  ends_are all adds f = (
    λ m. elim ((adds f).0 m) [ inl none ↦ absurd (let low = none.1 in omega arith) | inr g ↦ end_sound g.0 ((are g.0).0 g.1) f g.2 ],
    λ is. (adds f).1 (inr (end_complete f is)),
  )

-- ---- names

module _ (lsas : List (List ℕ)) (is : IsListing lsas) where
  carried_fits : (by : Carrier) (f : AreaFailure) → IsFailureBy by (advertisements_of lsas) f → FailureFits f
  carried_fits Switch (Link a b p) never = absurd never
  carried_fits Switch (End a b p) (inl one) = failure_fits lsas is (Link a b p) one
  carried_fits Switch (End a b p) (inr one) = let fits = failure_fits lsas is (Link b a p) one in (fits.1, fits.0)
  carried_fits Switch (Links a b) one = failure_fits lsas is (Links a b) one
  carried_fits Switch (Attachment r n) one = failure_fits lsas is (Attachment r n) one
  carried_fits Switch (Network n) one = failure_fits lsas is (Network n) one
  carried_fits Switch (Router r) one = failure_fits lsas is (Router r) one
  carried_fits Switch (Stub r p) never = absurd never
  carried_fits Direct f one = failure_fits lsas is f one
  carried_fits Process f one = failure_fits lsas is f one

pub carried_names_tell_apart : CarriedNamesTellApart
carried_names_tell_apart by lsas f g is fails fails' e = names_apart f g (carried_fits lsas is by f fails) (carried_fits lsas is by g fails') e
