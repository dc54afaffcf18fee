-- Texts that are written piece by piece.
use Rattle.std.proofs.Common.{◌≡◌, ◌⊎◌, ◌∙◌, inl, inr, ap, sym, subst, refl, arith, ◌+◌, ◌<◌, ℕ, zero, suc, List, [], ◌++◌, Option, add-one, append_assoc}
use Rattle.std.specs.Io.KnownBytes.{Appends}
use Rattle.ospf_area.specs.State.{AreaValue}
use Rattle.ospf_router.specs.Routers.{neighbours_on}
use Rattle.ospf_files.proofs.Written.{both_written, front_begun, nothing_written, rest_begun}
use Rattle.ospf_files.specs.Streams.{IsBegun}
use Rattle.ospf_views.specs.Shown.{link_neighbour_lines, links_lines}

links_more : (area : Option AreaValue) (link : ℕ) → links_lines link area ++ link_neighbour_lines link (neighbours_on area link) ≡ links_lines (suc link) area
unfolding links_lines
links_more area link = refl

no_links : (area : Option AreaValue) → links_lines 0 area ≡ []
unfolding links_lines
no_links area = refl

-- the neighbours of one link more
pub link_written : (area : Option AreaValue) (a b c : Option (List ℕ)) (link : ℕ) → Appends a b (links_lines link area)
    → Appends b c (link_neighbour_lines link (neighbours_on area link)) → Appends a c (links_lines (link + 1) area)
link_written area a b c link h k =
    let more : links_lines link area ++ link_neighbour_lines link (neighbours_on area link) ≡ links_lines (link + 1) area =
    links_more area link ∙ ap (λ n. links_lines n area) (sym (add-one link)) in
    subst (Appends a c) more (both_written a b c _ _ h k)

pub no_links_written : (area : Option AreaValue) (o : Option (List ℕ)) → Appends o o (links_lines 0 area)
no_links_written area o = subst (Appends o o) (sym (no_links area)) (nothing_written o)

pub last_or_before : (link count : ℕ) → link < suc count → (link ≡ count) ⊎ (link < count)
last_or_before zero zero within = inl refl
last_or_before zero (suc count) within = inr (omega arith)
last_or_before (suc link) zero within = absurd (omega arith)
last_or_before (suc link) (suc count) within = elim (last_or_before link count (omega arith)) [ inl last ↦ inl (ap suc last) | inr before ↦ inr (omega arith) ]

-- the neighbours of the links before one, and a beginning of those of that one
pub links_begun : (area : Option AreaValue) (a b c : Option (List ℕ)) (count link : ℕ) → link < count → Appends a b (links_lines link area)
    → IsBegun b c (link_neighbour_lines link (neighbours_on area link)) → IsBegun a c (links_lines count area)
links_begun area a b c zero link within h k = absurd (omega arith)
links_begun area a b c (suc count) link within h k =
    let last : IsBegun a c (links_lines count area ++ link_neighbour_lines count (neighbours_on area count)) =
    elim (last_or_before link count within) [
      | inl same ↦
          rest_begun a b c _ _ (subst (λ n. Appends a b (links_lines n area)) same h) (subst (λ n. IsBegun b c (link_neighbour_lines n (neighbours_on area n))) same k)
      | inr before ↦ front_begun a c _ _ (links_begun area a b c count link before h k)
    ] in
    subst (IsBegun a c) (links_more area count) last

-- the pieces of a line, which are written one after another
pub five_pieces : (a b c d e : List ℕ) → a ++ (b ++ (c ++ (d ++ e))) ≡ a ++ b ++ c ++ d ++ e
five_pieces a b c d e = sym (simp append_assoc)
