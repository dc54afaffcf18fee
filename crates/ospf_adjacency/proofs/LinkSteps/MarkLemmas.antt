-- Marks of keys, list by list.
use Rattle.std.proofs.Common.{◌≡◌, ◌∙◌, ◌++◌, ◌+◌, ◌<◌, ℕ, List, [], ◌∷◌, true, ap, refl, sym, take, get_or, length}
use Rattle.std.specs.List.{flat_map}
use Rattle.ospf_base.specs.declared.ids.LsaKey.{LsaKey}
use Rattle.ospf_area.specs.Numbers.{marked}
use Rattle.ospf_area.proofs.PlaceLemmas.{flat_map_step}
use Rattle.ospf_adjacency.specs.LinkSteps.Repeats.{marked_all}

marked_more : (a b sent : List LsaKey) → marked_all (a ++ b) sent ≡ marked_all b (marked_all a sent)
marked_more [] b sent = refl
marked_more (k ∷ ks) b sent = marked_more ks b (marked k true sent)

-- one element more of a list, each of which marks some keys
pub marks_step : {X : Type 0} (f : X → List LsaKey) (sent now : List LsaKey) (xs : List X) (i : ℕ) (x y : X) → i < length xs → y ≡ x → x ≡ get_or xs i x
    → now ≡ marked_all (flat_map f (take i xs)) sent → marked_all (f y) now ≡ marked_all (flat_map f (take (i + 1) xs)) sent
marks_step f sent now xs i x y lt same is so_far =
    ap (λ z. marked_all (f z) now) (same ∙ is) ∙ ap (λ l. marked_all (f (get_or xs i x)) l) so_far
    ∙ sym (marked_more (flat_map f (take i xs)) (f (get_or xs i x)) sent) ∙ ap (λ l. marked_all l sent) (sym (flat_map_step f xs i x lt))
