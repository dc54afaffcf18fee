-- LSAs of the same contents, one after another.
use Rattle.std.proofs.Common.{◌≡◌, ◌∙◌, ℕ, List, ap, flat_map, map, sym}
use Rattle.std.proofs.lemmas.List.Folds.{flat_map-map}
use Rattle.ospf_base.specs.Sums.{contents}

by_contents : (lsas : List (List ℕ)) → flat_map contents lsas ≡ flat_map (λ c. c) (map contents lsas)
by_contents lsas = sym (flat_map-map (λ c. c) contents lsas)

pub same_in_a_row : (a b : List (List ℕ)) → map contents a ≡ map contents b → flat_map contents a ≡ flat_map contents b
same_in_a_row a b same = by_contents a ∙ ap (flat_map (λ c. c)) same ∙ sym (by_contents b)
