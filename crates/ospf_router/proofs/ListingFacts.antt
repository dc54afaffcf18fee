-- The listing that a router's routes were made of.
use Rattle.std.proofs.Common.{◌≡◌, ℕ, List, [], ◌∷◌, Option, None, Some, Bor, map, refl, sym, ap, subst, ◌∙◌}
use Rattle.std.specs.Prelude.{IfSome}
use Rattle.ospf_area.specs.State.{AreaValue}
use Rattle.ospf_base.specs.Sums.{contents}
use Rattle.ospf_graph.specs.EdgeLists.Listed.{advertisements_of}
use Rattle.ospf_router.proofs.ListLemmas.{same_told}
use Rattle.ospf_router.specs.Routes.{RoutesValue}
use Rattle.ospf_router.specs.Routers.{IsRouter, listing_of}

-- it has the LSAs that the router lists
pub kept_same : (links : ℕ) (routes : RoutesValue) (area : Option AreaValue) (s : AreaValue) → area ≡ Some s → IsRouter links routes area → map contents routes.listing ≡ map contents (listing_of area)
kept_same links routes area s is router =
    let runs : IsRouter links routes (Some s) = subst (λ (o : Option AreaValue). IsRouter links routes o) is router in
    sym runs.0.listing ∙ ap (λ (o : Option AreaValue). map contents (listing_of o)) (sym is)

pub told_by : (o : Option (Bor (List (List ℕ)))) (kept lists : List (List ℕ)) → map contents kept ≡ map contents lists → IfSome o (λ l. l.now ≡ kept) → IfSome o (λ l. advertisements_of l.now ≡ advertisements_of lists)
told_by None kept lists same is = tt
told_by (Some l) kept lists same is = ap advertisements_of is ∙ same_told kept lists same

pub none_by : (kept lists : List (List ℕ)) → map contents kept ≡ map contents lists → kept ≡ [] → lists ≡ []
none_by kept [] same none = refl
none_by kept (x ∷ xs) same none = absurd (let h : [] ≡ contents x ∷ map contents xs = sym (ap (map contents) none) ∙ same in cc)
