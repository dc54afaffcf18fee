-- Two tables are one where no change leads from one to the other.
use Rattle.std.proofs.Common.{eqb-true, ◌≡◌, ◌≢◌, ◌↔◌, ◌==◌, IsTrue, Bool, List, [], ◌∷◌, Contains, length, refl, sym, subst, ◌∙◌, arith}
use Rattle.ospf_base.specs.declared.prefix.Prefix.{Prefix}
use Rattle.ospf_graph.proofs.ListLemmas.{member_head}
use Rattle.ospf_graph.specs.declared.route.Route.{Route}
use Rattle.ospf_spf.specs.Changes.{IsGone, IsNewRoute, Reaches, edited}
use Rattle.ospf_spf.specs.declared.changes.Change.{Change}
use Rattle.ospf_spf.specs.declared.changes.Change.TheVariants.{Put, Gone}

edited_none : (old : List Route) → edited old [] ≡ old
unfolding edited
edited_none old = refl

first_in : (c : Change) (cs : List Change) → Contains (c ∷ cs) c
first_in c cs = member_head c cs

module _ (old new : List Route) where
  -- some change tells them apart
  apart : (cs : List Change) (c : Change) → Contains cs c → ((route : Route) → Contains cs (Put route) ↔ IsNewRoute old new route) → ((prefix : Prefix) → Contains cs (Gone prefix) ↔ IsGone old new prefix) → new ≢ old
  apart cs (Put route) at puts gone = λ same. let is = (puts route).0 at in is.1 (subst (λ (t : List Route). Contains t route) same is.0)
  apart cs (Gone prefix) at puts gone = λ same. let is = (gone prefix).0 at in is.1 (subst (λ (t : List Route). Reaches t prefix) (sym same) is.0)

  pub told_same : (cs : List Change) → edited old cs ≡ new → ((route : Route) → Contains cs (Put route) ↔ IsNewRoute old new route) → ((prefix : Prefix) → Contains cs (Gone prefix) ↔ IsGone old new prefix)
      → (b : Bool) → b ≡ (length cs == 0) → IsTrue b ↔ (new ≡ old)
  told_same [] leads puts gone b is = ((λ t. sym leads ∙ edited_none old), (λ same. is))
  told_same (c ∷ cs) leads puts gone b is = (
    (λ t. absurd (let zero : length (c ∷ cs) ≡ 0 = eqb-true (length (c ∷ cs)) 0 (sym is ∙ t) in omega (arith, zero))),
    (λ same. absurd (apart (c ∷ cs) c (first_in c cs) puts gone same)),
  )
