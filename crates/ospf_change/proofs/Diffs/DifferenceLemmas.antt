-- What differs between two tables, by the changes from one to the other.
use Rattle.std.proofs.Common.{◌≡◌, ◌∙◌, ◌+◌, ◌<◌, ◌⊎◌, ◌↔◌, ◌++◌, ℕ, List, [], ◌∷◌, take, length, get_or, map, ap, sym, refl, subst, inl, inr, arith}
use Rattle.std.specs.List.{All, AllPairs, Contains}
use Rattle.std.proofs.lemmas.List.{map_push, take_more}
use Rattle.std.proofs.lemmas.List.Elements.{All-nil, All-push}
use Rattle.ospf_base.specs.Prefixes.{IsPrefixBefore}
use Rattle.ospf_base.specs.declared.prefix.Prefix.{Prefix}
use Rattle.ospf_graph.specs.declared.hop.NextHop.{NextHop}
use Rattle.ospf_graph.specs.declared.route.Route.{Route}
use Rattle.ospf_spf.specs.Changes.{IsChangeBefore, IsGone, IsNewRoute, Reaches, prefix_of}
use Rattle.ospf_spf.specs.declared.changes.Change.{Change}
use Rattle.ospf_spf.specs.declared.changes.Change.TheVariants.{Gone, Put}
use Rattle.ospf_change.specs.Diff.Difference.{AreDifferences, HasDifferenceAt, IsDifference, IsDifferenceBefore, IsDifferenceBy, IsOfTable, IsRouteTurn, prefix_at}
use Rattle.ospf_change.specs.declared.diff.difference.RouteDifference.{RouteDifference}
use Rattle.ospf_change.specs.declared.diff.difference.RouteDifference.TheVariants.{Gained, Longer, Lost, Rerouted, Shorter}
use Rattle.ospf_change.proofs.Diffs.PairLemmas.{has_key, pairs_by_keys}

-- a difference of the tables, at this prefix
abbrev IsAt : List Route → List Route → Prefix → RouteDifference → Type 0
IsAt before after prefix d = IsDifference before after d × (prefix_at d ≡ prefix)

same_route : (old new : Route) → old.prefix ≡ new.prefix → old.cost ≡ new.cost → old.hops ≡ new.hops → old ≡ new
same_route old new p c h = λ i. record { prefix = p i; cost = c i; hops = h i }

module _ (before after : List Route) where
  at_gone : (prefix : Prefix) (d : RouteDifference) → IsGone before after prefix → IsDifferenceBy before (Gone prefix) d → IsAt before after prefix d
  at_gone prefix d gone by =
      let old = by.0 in
      let lost : IsAt before after prefix (Lost old) = ((by.1, subst (λ (p : Prefix). Reaches after p → ⊥) (sym by.2) gone.1), by.2) in
      subst (IsAt before after prefix) (sym by.3) lost

  at_turn : (old new : Route) (d : RouteDifference) → Contains before old → old.prefix ≡ new.prefix → IsNewRoute before after new → IsRouteTurn old new d
      → IsAt before after new.prefix d
  at_turn old new d had same is (inl longer) =
      subst (IsAt before after new.prefix) (sym longer.1) ((record { had = had; has = is.0; one_prefix = same }, longer.0), refl)
  at_turn old new d had same is (inr (inl shorter)) =
      subst (IsAt before after new.prefix) (sym shorter.1) ((record { had = had; has = is.0; one_prefix = same }, shorter.0), refl)
  at_turn old new d had same is (inr (inr rerouted)) =
      let other : old.hops ≡ new.hops → ⊥ = λ hops. is.1 (subst (λ (r : Route). Contains before r) (same_route old new same rerouted.0 hops) had) in
      subst (IsAt before after new.prefix) (sym rerouted.1) ((record { had = had; has = is.0; one_prefix = same }, rerouted.0, other), refl)

  at_put : (route : Route) (d : RouteDifference) → IsNewRoute before after route → IsDifferenceBy before (Put route) d → IsAt before after route.prefix d
  at_put route d is (inl gained) = subst (IsAt before after route.prefix) (sym gained.1) ((is.0, gained.0), refl)
  at_put route d is (inr turned) = at_turn turned.0 route d turned.1 turned.2 is turned.3

  module _ (changes : List Change) (puts : (route : Route) → Contains changes (Put route) ↔ IsNewRoute before after route)
      (gone : (prefix : Prefix) → Contains changes (Gone prefix) ↔ IsGone before after prefix) where
    pub of_table : (c : Change) → Contains changes c → IsOfTable before c
    of_table (Gone prefix) h = ((gone prefix).0 h).0
    of_table (Put route) h = tt

    at_change : (c : Change) (d : RouteDifference) → Contains changes c → IsDifferenceBy before c d → IsAt before after (prefix_of c) d
    at_change (Gone prefix) d h by = at_gone prefix d ((gone prefix).0 h) by
    at_change (Put route) d h by = at_put route d ((puts route).0 h) by

    -- the differences of one change more
    pub prefixes_more : (i : ℕ) (c : Change) (d : RouteDifference) (found : List RouteDifference) → i < length changes → c ≡ get_or changes i c
        → IsDifferenceBy before c d → map prefix_at found ≡ map prefix_of (take i changes) → map prefix_at (found ++ d ∷ []) ≡ map prefix_of (take (i + 1) changes)
    prefixes_more i c d found lt is by so_far =
        let at = at_change c d (i, lt, sym is) by in
        let more : map prefix_of (take (i + 1) changes) ≡ map prefix_of (take i changes) ++ prefix_of c ∷ [] =
        ap (map prefix_of) (take_more changes i c lt) ∙ map_push prefix_of (take i changes) (get_or changes i c)
        ∙ ap (λ (x : Change). map prefix_of (take i changes) ++ prefix_of x ∷ []) (sym is) in
        map_push prefix_at found d ∙ ap (λ (ps : List Prefix). ps ++ prefix_at d ∷ []) so_far
        ∙ ap (λ (p : Prefix). map prefix_of (take i changes) ++ p ∷ []) at.1 ∙ sym more

    pub sound_more : (i : ℕ) (c : Change) (d : RouteDifference) (found : List RouteDifference) → i < length changes → c ≡ get_or changes i c
        → IsDifferenceBy before c d → All (IsDifference before after) found → All (IsDifference before after) (found ++ d ∷ [])
    sound_more i c d found lt is by so_far = All-push (IsDifference before after) found d so_far (at_change c d (i, lt, sym is) by).0

    pub all_found : (found : List RouteDifference) → map prefix_at found ≡ map prefix_of changes → All (IsDifference before after) found → AllPairs IsChangeBefore changes
        → AreDifferences before after found
    all_found found prefixes sound order = record {
      in_order = pairs_by_keys prefix_at prefix_of IsPrefixBefore found changes prefixes order;
      sound = sound;
      new_routes = λ route is. has_key prefix_at prefix_of found changes prefixes (Put route) ((puts route).1 is);
      lost_prefixes = λ prefix is. has_key prefix_at prefix_of found changes prefixes (Gone prefix) ((gone prefix).1 is);
    }
