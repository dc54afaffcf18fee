-- The bytes of an LSA that is made.
use Rattle.std.proofs.Common.{◌≡◌, ℕ, ◌+◌, ◌*◌, ◌<◌, ◌≤◌, List, [], ◌∷◌, ◌++◌, length, map, get_or, take, drop, set, refl, sym, ap, ◌∙◌, arith}
use Rattle.std.specs.List.{flat_map, AllByRecursion}
use Rattle.std.proofs.lemmas.List.{take_more, flat_map_more, length-append, length-take, drop_more, set_split, set-append_right}
use Rattle.ospf_base.specs.Sums.{with_checksum}
use Rattle.ospf_lsa.specs.declared.link.Link.{Link}
use Rattle.ospf_lsa.specs.Link.{LinkEntry, entry_bytes, link_bytes, plain, LinkFits, EntryFits}

pub all_push : {X : Type 0} (P : X → Type 0) (xs : List X) (x : X) → AllByRecursion P xs → P x → AllByRecursion P (xs ++ x ∷ [])
all_push P [] x p q = (q, tt)
all_push P (y ∷ ys) x p q = (p.0, all_push P ys x p.1 q)

-- one link more
pub fits_more : (links : List Link) (i : ℕ) (d : Link) → i < length links → AllByRecursion LinkFits (take i links) → LinkFits (get_or links i d) → AllByRecursion LinkFits (take (i + 1) links)
fits_more links i d lt before here = rw (take_more links i d lt) (all_push LinkFits (take i links) (get_or links i d) before here)

pub bytes_more : (links : List Link) (i : ℕ) (d : Link) (start now : List ℕ) → i < length links → now ≡ start ++ flat_map link_bytes (take i links)
    → now ++ link_bytes (get_or links i d) ≡ start ++ flat_map link_bytes (take (i + 1) links)
bytes_more links i d start now lt before =
    ap (λ (bs : List ℕ). bs ++ link_bytes (get_or links i d)) before
    ∙ flat_map_more link_bytes start (take i links) (get_or links i d)
    ∙ ap (λ (ls : List Link). start ++ flat_map link_bytes ls) (sym (take_more links i d lt))

-- the entries of links without TOS metrics
pub entries_fit : (links : List Link) → AllByRecursion LinkFits links → AllByRecursion EntryFits (map plain links)
entries_fit [] fits = tt
entries_fit (l ∷ links) fits = (
  record { link = fits.0; count = omega arith; tos_length = refl; tos_bytes = λ i. omega arith },
  entries_fit links fits.1,
)

pub entry_links : (links : List Link) → map (λ (e : LinkEntry). e.link) (map plain links) ≡ links
entry_links [] = refl
entry_links (l ∷ links) = ap (λ (ls : List Link). l ∷ ls) (entry_links links)

pub entries_bytes : (links : List Link) → flat_map entry_bytes (map plain links) ≡ flat_map link_bytes links
entries_bytes [] = refl
entries_bytes (l ∷ links) = ap (λ (bs : List ℕ). link_bytes l ++ bs) (entries_bytes links)

pub length-links : (links : List Link) → length (flat_map link_bytes links) ≡ 12 * length links
length-links [] = refl
length-links (l ∷ links) = omega (arith, length-links links, length-append (link_bytes l) (flat_map link_bytes links))
