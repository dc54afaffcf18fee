-- Changes, one after the other.
use Rattle.std.proofs.Common.{◌≡◌, ◌≢◌, ◌⊎◌, ◌+◌, ◌<◌, ◌≤◌, ◌++◌, ◌∷◌, ℕ, Bool, true, false, if◌then◌else◌, suc, List, [], map, take, drop, length, get_or, refl, sym, ap, subst, ◌∙◌, inl, inr, arith, take-append-drop}
use Rattle.std.specs.List.{AllZip, Contains}
use Rattle.std.proofs.lemmas.List.{take_more}
use Rattle.std.proofs.Math.Seq.{drop-cons}
use Rattle.ospf_base.specs.declared.ids.RouterId.{RouterId}
use Rattle.ospf_lsa.specs.declared.link.Link.{Link}
use Rattle.ospf_graph.specs.Advertisements.{Advertisement, network_lsa, router_lsa}
use Rattle.ospf_graph.proofs.ListLemmas.{member_of_map, member_to_map}
use Rattle.ospf_graph.specs.EdgeLists.Listed.{advertisements_of}
use Rattle.ospf_whatif.specs.Failure.{HasLarge, HasLeftLarge, IsLarge, IsLeftLarge, inner_of, without}
use Rattle.ospf_whatif.specs.declared.failure.AreaFailure.{AreaFailure}
use Rattle.ospf_whatif.proofs.WithoutLemmas.{has_large, small_without}
use Rattle.ospf_change.specs.Edit.Change.{AreChanged, AreChangedBy, HasChangedLarge, HasChangedLargeBy, HasLargeThen, IsChangedLarge, changed_area, changed_by, changed_lsa, changes_costs_of, links_after, priced_link, priced_links}
use Rattle.ospf_change.specs.declared.edit.change.Change.{Change}
use Rattle.ospf_change.specs.declared.edit.change.Change.TheVariants.{Down, Cost, CostTo, Drain}

-- ---- a failure

large_left : (A : List Advertisement) (f : AreaFailure) (a : Advertisement) → IsChangedLarge (links_after A (Down f)) a → IsLeftLarge (inner_of f A) f a
large_left A f (router_lsa r links) large = large
large_left A f (network_lsa n r mask attached) large = large

pub large_down : (A : List Advertisement) (f : AreaFailure) → HasChangedLarge (Down f) A → HasLeftLarge f A
large_down A f large = (large.0, large.1, large_left A f large.0 large.2)

-- ---- one change more

pub by_more : (cs : List Change) (c : Change) (A : List Advertisement) → changed_by (cs ++ c ∷ []) A ≡ changed_area c (changed_by cs A)
by_more [] c A = refl
by_more (d ∷ cs) c A = by_more cs c (changed_area d A)

pub bytes_more : (cs : List Change) (c : Change) (before left after : List (List ℕ)) → AreChangedBy cs before left → AreChanged c left after → AreChangedBy (cs ++ c ∷ []) before after
bytes_more [] c before left after same last = (after, subst (λ (l : List (List ℕ)). AreChanged c l after) same last, refl)
bytes_more (d ∷ cs) c before left after first last = (first.0, first.1, bytes_more cs c first.0 left after first.2 last)

pub small_more : (cs : List Change) (c : Change) (A : List Advertisement) → (HasChangedLargeBy cs A → ⊥) → (HasChangedLarge c (changed_by cs A) → ⊥)
    → HasChangedLargeBy (cs ++ c ∷ []) A → ⊥
small_more [] c A before last (inl large) = last large
small_more [] c A before last (inr none) = none
small_more (d ∷ cs) c A before last (inl large) = before (inl large)
small_more (d ∷ cs) c A before last (inr later) = small_more cs c (changed_area d A) (λ large. before (inr large)) last later

large_then : (cs : List Change) (c : Change) (more : List Change) (A : List Advertisement) → HasChangedLarge c (changed_by cs A) → HasChangedLargeBy (cs ++ c ∷ more) A
large_then [] c more A large = inl large
large_then (d ∷ cs) c more A large = inr (large_then cs c more (changed_area d A) large)

module _ (cs : List Change) (i : ℕ) (c : Change) (within : i < length cs) (is : c ≡ get_or cs i c) where
  next : take (i + 1) cs ≡ take i cs ++ c ∷ []
  next = take_more cs i c within ∙ ap (λ (d : Change). take i cs ++ d ∷ []) (sym is)

  pub changed_next : (A left : List Advertisement) → left ≡ changed_by (take i cs) A → (new : List Advertisement) → new ≡ changed_area c left → new ≡ changed_by (take (i + 1) cs) A
  changed_next A left before new now = now ∙ ap (changed_area c) before ∙ sym (ap (λ (ds : List Change). changed_by ds A) next ∙ by_more (take i cs) c A)

  pub bytes_next : (before left after : List (List ℕ)) → AreChangedBy (take i cs) before left → AreChanged c left after → AreChangedBy (take (i + 1) cs) before after
  bytes_next before left after first last = subst (λ (ds : List Change). AreChangedBy ds before after) (sym next) (bytes_more (take i cs) c before left after first last)

  pub small_next : (A left : List Advertisement) → left ≡ changed_by (take i cs) A → (HasChangedLargeBy (take i cs) A → ⊥) → (HasChangedLarge c left → ⊥)
      → HasChangedLargeBy (take (i + 1) cs) A → ⊥
  small_next A left same before last large =
      small_more (take i cs) c A before (subst (λ (B : List Advertisement). HasChangedLarge c B → ⊥) same last) (subst (λ (ds : List Change). HasChangedLargeBy ds A) next large)

  pub large_next : (A left : List Advertisement) → left ≡ changed_by (take i cs) A → HasChangedLarge c left → HasChangedLargeBy cs A
  large_next A left same large =
      let split : take i cs ++ c ∷ drop (suc i) cs ≡ cs =
      ap (λ (d : Change). take i cs ++ d ∷ drop (suc i) cs) is ∙ ap (λ (rest : List Change). take i cs ++ rest) (sym (drop-cons cs i c within)) ∙ take-append-drop i cs in
      subst (λ (ds : List Change). HasChangedLargeBy ds A) split (large_then (take i cs) c (drop (suc i) cs) A (subst (HasChangedLarge c) same large))

-- ---- an area without large router-LSAs

priced_many : (c : Change) (links xs : List Link) → length (map (priced_link c links) xs) ≡ length xs
priced_many c links [] = refl
priced_many c links (l ∷ xs) = ap suc (priced_many c links xs)

as_many : (c : Change) (r : RouterId) (links : List Link) → length (priced_links c r links) ≡ length links
as_many c r links = go (changes_costs_of c r)
  where
    go : (b : Bool) → length (if b then map (priced_link c links) links else links) ≡ length links
    go true = priced_many c links links
    go false = refl

-- what is too large after a change of costs is so before
priced_large : (c : Change) (a : Advertisement) → IsChangedLarge (priced_links c) a → IsLarge a
priced_large c (router_lsa r links) large = subst (λ (n : ℕ). 1361 < n) (as_many c r links) large.1
priced_large c (network_lsa n r mask attached) large = large

priced_is_large : (c : Change) (a : Advertisement) → IsLarge (changed_lsa (priced_links c) a) → IsLarge a
priced_is_large c (router_lsa r links) large = subst (λ (n : ℕ). 1361 < n) (as_many c r links) large
priced_is_large c (network_lsa n r mask attached) large = large

large_before : (c : Change) (A : List Advertisement) → HasLargeThen (priced_links c) A → HasLarge A
large_before c A large = (large.0, large.1, priced_large c large.0 large.2)

priced_small : (c : Change) (A : List Advertisement) → (HasLarge A → ⊥) → HasLarge (map (changed_lsa (priced_links c)) A) → ⊥
priced_small c A small large =
    let m = member_of_map (changed_lsa (priced_links c)) A large.0 large.1 in
    small (m.0, m.1, priced_is_large c m.0 (subst IsLarge (sym m.2) large.2))

change_small : (c : Change) (A : List Advertisement) → (HasLarge A → ⊥) → HasChangedLarge c A → ⊥
change_small (Down f) A small large = small (has_large f A (large_down A f large))
change_small (Cost r a n) A small large = small (large_before (Cost r a n) A large)
change_small (CostTo r o n) A small large = small (large_before (CostTo r o n) A large)
change_small (Drain r) A small large = small (large_before (Drain r) A large)

stays_small : (c : Change) (A : List Advertisement) → (HasLarge A → ⊥) → HasLarge (changed_area c A) → ⊥
stays_small (Down f) A small = small_without f A small
stays_small (Cost r a n) A small = priced_small (Cost r a n) A small
stays_small (CostTo r o n) A small = priced_small (CostTo r o n) A small
stays_small (Drain r) A small = priced_small (Drain r) A small

pub never_large : (cs : List Change) (A : List Advertisement) → (HasLarge A → ⊥) → HasChangedLargeBy cs A → ⊥
never_large [] A small none = none
never_large (c ∷ cs) A small (inl large) = change_small c A small large
never_large (c ∷ cs) A small (inr later) = never_large cs (changed_area c A) (stays_small c A small) later

-- ... where nothing is changed
pub none_large : (cs : List Change) (A : List Advertisement) → (cs ≢ [] → HasLarge A → ⊥) → HasChangedLargeBy cs A → ⊥
none_large [] A small none = none
none_large (c ∷ cs) A small large = never_large (c ∷ cs) A (small (λ e. cc)) large
